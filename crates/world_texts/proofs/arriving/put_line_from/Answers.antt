use Rattle.std.proofs.Common.{◌≡◌, ◌++◌, ◌∙◌, OnOk, string_bytes, subst}
use Rattle.dist_model.specs.Names.{Name}
use Rattle.node_core.specs.Model.{model_of}
use Rattle.world_texts.specs.Shown.{coming_line}
use Rattle.world_texts.specs.Travelling.{travelling}
use Rattle.world_texts.proofs.InFlight.{travelling_spelled}
use Rattle.world_texts.proofs.arriving.put_line_from.Goals as goal

pub returns : goal.returns
returns c = λ m h.
    let node = model_of c.args.node.now in
    let items = travelling m node c.args.peer.now in
    subst (λ (names : Name × Name).
    OnOk c.put_coming.result (string_bytes c.put_coming.new.out ≡ string_bytes c.args.out.now ++ coming_line names.0 names.1 items))
    (λ i. ((c.text.ensures.text ∙ c.name.ensures) i, c.text-2.ensures.text i))
    (c.put_coming.ensures items (travelling_spelled c.args.world.now m h node c.args.peer.now)
    (c.deref.ensures.value ∙ c.in_ok-frames.ensures m h))
