use Rattle.std.proofs.Common.{◌∙◌}
use Rattle.node_core.specs.Model.{model_of}
use Rattle.world_texts.specs.Travelling.{travelling}
use Rattle.world_texts.proofs.InFlight.{travelling_spelled}
use Rattle.world_texts.proofs.travels.put_travels.Goals as goal

pub returns : goal.returns
returns c = λ m h.
    let node = model_of c.args.node.now in
    c.put_line.ensures (travelling m node c.args.peer.now) (travelling_spelled c.args.world.now m h node c.args.peer.now)
    (c.deref.ensures.value ∙ c.in_ok-frames.ensures m h)
