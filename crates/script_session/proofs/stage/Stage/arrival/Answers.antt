use Rattle.std.proofs.Common.{ap, sym, Bool, if◌then◌else◌, ◌∙◌}
use Rattle.dist_model.specs.World.{Arrive}
use Rattle.script_session.proofs.stage.Stage.arrival.Goals.{else-is_new, then-is_new}
use Rattle.script_session.proofs.stage.Stage.arrival.Goals as goal

pub returns : goal.returns
returns c = λ it is.
    let takes = sym (c.is_new.ensures it is it.word) in
    ap (Arrive c.args.trunk c.args.node.now) (elim c.if-is_new.branch [
      | then-is_new w ↦ w.word-is ∙ is.word ∙ sym (ap (λ (b : Bool). if b then it.word else 0) (takes ∙ w.if-is_new.true))
      | else-is_new w ↦ w.word-is ∙ sym (ap (λ (b : Bool). if b then it.word else 0) (takes ∙ w.if-is_new.false))
    ])
