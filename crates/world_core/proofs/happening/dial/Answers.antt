use Rattle.node_core.specs.Model.{model_of}
use Rattle.world_core.proofs.Planned.{sends_on}
use Rattle.world_core.proofs.happening.dial.Goals as goal

pub returns : goal.returns
returns c = λ names known.
    let made = c.plan_dial-made in
    sends_on (model_of c.args.node.now) (model_of made.new.self) (model_of c.finish.new.node) _ made.new.planned.plan made.result
    c.args.lists.now c.finish.new.lists c.finish.result made.ensures.same (c.finish.ensures _) (made.ensures.plan names known)
