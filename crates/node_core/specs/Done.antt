-- What an event does to a node, and reports, is what the model does.
use Rattle.std.specs.Prelude.{◌≡◌, map, Result, Ok, Err}
use Rattle.dist_model.specs.Commands.{Accepts, Outcome}
use Rattle.dist_model.specs.Node.{Node}
use Rattle.dist_model.specs.Work.{Work}
use Rattle.dist_model.specs.declared.report.Answer.{Answer}
use Rattle.dist_model.specs.declared.report.Report.{Report}
use Rattle.erl_term.specs.declared.refusal.Refusal.{Refusal}
use Rattle.node_frames.specs.Frames.{AllSpelled, Framed, shown}
use Rattle.node_plan.specs.Planned.{IsRefused}

pub record Did (outcome : Outcome) (new : Node) (report : Report Framed) : Type 0 where
  pub answer : Answer
  pub work : Work
  pub accepts : outcome ≡ Accepts answer work
  pub told : report.answer ≡ answer
  pub node : new ≡ work.node
  pub effects : report.effects.items ≡ map shown work.effects
  pub spelled : AllSpelled work.effects

-- a refused event changes nothing
abbrev pub Does : Outcome → (old new : Node) → Result (Report Framed) Refusal → Type 0
Does outcome old new (Ok report) = Did outcome new report
Does outcome old new (Err e) = IsRefused outcome e × (new ≡ old)
