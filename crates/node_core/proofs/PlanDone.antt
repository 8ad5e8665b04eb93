-- A plan that is carried out does what was planned.
use Rattle.std.proofs.Common.{◌≡◌, Result, sym, ap, subst, ◌∙◌}
use Rattle.std.specs.declared.alloc.Global.{Global}
use Rattle.std.specs.declared.vec.Vec.{Vec}
use Rattle.dist_model.specs.Commands.{Outcome}
use Rattle.dist_model.specs.Node.{Node}
use Rattle.dist_model.specs.declared.report.Effect.{Effect}
use Rattle.dist_model.specs.declared.report.Report.{Report}
use Rattle.erl_term.specs.declared.refusal.Refusal.{Refusal}
use Rattle.node_core.specs.Done.{Did, Does}
use Rattle.node_frames.specs.Frames.{Framed}
use Rattle.node_plan.specs.Planned.{IsPlanned, Plans}
use Rattle.node_plan.specs.Plans.{committed, told}
use Rattle.node_plan.specs.declared.plan.Plan.{Plan}

pub done : (m new : Node) (outcome : Outcome) (plan : Plan) (report : Report Framed) → IsPlanned m outcome plan
    → new ≡ committed plan m → report.answer ≡ told plan m → report.effects ≡ plan.effects → Did outcome new report
done m new outcome plan report h n t e = record {
  answer = h.answer;
  work = h.work;
  accepts = h.accepts;
  told = t ∙ h.told;
  node = n ∙ sym h.makes.node;
  effects = ap (λ (xs : Vec (Effect Framed) Global). xs.items) e ∙ h.makes.effects;
  spelled = h.makes.spelled;
}

-- planned for the node as it was, whose room has grown
pub does_on : (m mid new : Node) (due : Outcome) (plan : Plan) (made : Result (Unit {0}) Refusal) (result : Result (Report Framed) Refusal)
    → mid ≡ m → (Plans mid due plan made → Does due mid new result) → Plans m due plan made → Does due m new result
does_on m mid new due plan made result e f h =
    subst (λ n. Does due n new result) e (f (subst (λ n. Plans n due plan made) (sym e) h))
