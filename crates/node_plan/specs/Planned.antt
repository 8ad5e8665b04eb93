-- What is planned of an event, or refused, is what the model does at it.
use Rattle.std.specs.Prelude.{◌≡◌, ◌⊎◌, Result, Ok, Err}
use Rattle.std.specs.declared.alloc.AllocError.{AllocError}
use Rattle.dist_model.specs.Commands.{Accepts, Outcome, Refuses}
use Rattle.dist_model.specs.Node.{Node}
use Rattle.dist_model.specs.Work.{Work}
use Rattle.dist_model.specs.declared.report.Answer.{Answer}
use Rattle.erl_term.specs.declared.refusal.Refusal.{Refusal}
use Rattle.node_plan.specs.Carried.{Makes}
use Rattle.node_plan.specs.Plans.{told}
use Rattle.node_plan.specs.declared.plan.Plan.{Plan}

pub record IsPlanned (m : Node) (outcome : Outcome) (plan : Plan) : Type 0 where
  pub answer : Answer
  pub work : Work
  pub accepts : outcome ≡ Accepts answer work
  pub told : told plan m ≡ answer
  pub makes : Makes plan m work

-- want of memory comes after each other refusal
pub record LacksMemory (outcome : Outcome) (e : Refusal) : Type 0 where
  pub is : e ≡ Refusal.OutOfMemory
  pub answer : Answer
  pub work : Work
  pub accepts : outcome ≡ Accepts answer work

abbrev pub IsRefused : Outcome → Refusal → Type 0
IsRefused outcome e = (outcome ≡ Refuses e) ⊎ LacksMemory outcome e

abbrev pub Plans : Node → Outcome → Plan → Result (Unit {0}) Refusal → Type 0
Plans m outcome plan (Ok done) = IsPlanned m outcome plan
Plans m outcome plan (Err e) = IsRefused outcome e

-- want of memory is a refusal
abbrev pub refused : Result (Unit {0}) AllocError → Result (Unit {0}) Refusal
refused (Ok done) = Ok done
refused (Err e) = Err Refusal.OutOfMemory
