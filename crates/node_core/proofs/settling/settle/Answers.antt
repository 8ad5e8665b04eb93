use Rattle.std.proofs.Common.{◌≡◌, Ok, Result, subst}
use Rattle.dist_model.specs.Commands.{Outcome}
use Rattle.dist_model.specs.Node.{Node}
use Rattle.erl_term.specs.declared.refusal.Refusal.{Refusal}
use Rattle.node_plan.proofs.Outcomes.{lacks}
use Rattle.node_plan.specs.Planned.{IsRefused, Plans}
use Rattle.node_plan.specs.Seen.{seen}
use Rattle.node_plan.specs.declared.plan.Plan.{Plan}
use Rattle.node_core.proofs.settling.settle.Goals as goal

-- what was planned is refused where memory is wanting
wanting : (m : Node) (plan : Plan) (made : Result (Unit {0}) Refusal) (u : Unit {0}) → made ≡ Ok u → (due : Outcome)
    → Plans m due plan made → IsRefused due Refusal.OutOfMemory
wanting m plan made u is due h =
    let P : Result (Unit {0}) Refusal → Type 0 = (λ r. Plans m due plan r) in
    let k = subst P is h in
    lacks due k.answer k.work k.accepts

pub returns-in-Err-reserve-clause-plan : goal.returns-in-Err-reserve-clause-plan
returns-in-Err-reserve-clause-plan c = wanting (seen c.args.node.now) c.args.planned.now.plan c.args.made c.in-Ok.field-0 c.in-Ok.is
