use Rattle.std.proofs.Common.{subst, ◌∙◌}
use Rattle.node_core.specs.Model.{model_of}
use Rattle.node_history.proofs.AnsweredTwice.{carried}
use Rattle.node_plan.specs.Planned.{Plans}
use Rattle.node_history.proofs.acts.carry_out.Goals as goal

pub returns-in-Ok-copied_effects-clause-ok : goal.returns-in-Ok-copied_effects-clause-ok
returns-in-Ok-copied_effects-clause-ok c = λ due fills plan.
    let m = model_of c.args.node.now in
    let e = c.commit-report.ensures in
    carried m (model_of c.commit-report.new.self) due c.args.spare c.args.planned.plan c.commit-report.result
    c.again-answer.result c.in-Ok-copied_effects.effects
    (subst (λ r. Plans m due c.args.planned.plan r) c.in-Ok.is plan)
    e.node e.answer e.effects c.again-answer.ensures (c.in-Ok-copied_effects.ensures ∙ c.effects.ensures) fills
