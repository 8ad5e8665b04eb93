-- A plan that carries out a work is what is planned.
use Rattle.std.proofs.Common.{◌≡◌, OnOk, Result, Ok, Err, inr, refl}
use Rattle.std.specs.declared.alloc.AllocError.{AllocError}
use Rattle.dist_model.specs.Commands.{Accepts, Outcome}
use Rattle.dist_model.specs.Node.{Node}
use Rattle.dist_model.specs.Work.{Work}
use Rattle.dist_model.specs.declared.report.Answer.{Answer}
use Rattle.erl_term.specs.declared.refusal.Refusal.{Refusal}
use Rattle.node_plan.specs.Planned.{IsPlanned, IsRefused, Plans, refused}
use Rattle.node_plan.proofs.PlanMakes.{makes_it}
use Rattle.node_plan.specs.Carried.{Carries, CarriesOut, Makes, MakesOr}
use Rattle.node_plan.specs.Plans.{told}
use Rattle.node_plan.specs.declared.plan.Plan.{Plan}

pub planned : (m : Node) (outcome : Outcome) (answer : Answer) (work : Work) (plan : Plan)
    → outcome ≡ Accepts answer work → told plan m ≡ answer → CarriesOut plan m work → IsPlanned m outcome plan
planned m outcome answer work plan g t h = record { answer = answer; work = work; accepts = g; told = t; makes = makes_it plan m work h }

pub made : (m : Node) (outcome : Outcome) (answer : Answer) (work : Work) (plan : Plan)
    → outcome ≡ Accepts answer work → told plan m ≡ answer → Makes plan m work → IsPlanned m outcome plan
made m outcome answer work plan g t h = record { answer = answer; work = work; accepts = g; told = t; makes = h }

-- memory was wanting
pub lacks : (outcome : Outcome) (answer : Answer) (work : Work) → outcome ≡ Accepts answer work → IsRefused outcome Refusal.OutOfMemory
lacks outcome answer work g = inr (record { is = refl; answer = answer; work = work; accepts = g })

pub planned_by : (m : Node) (outcome : Outcome) (answer : Answer) (work : Work) (plan : Plan) (r : Result (Unit {0}) AllocError)
    → outcome ≡ Accepts answer work → told plan m ≡ answer → Carries m work plan r → Plans m outcome plan (refused r)
planned_by m outcome answer work plan (Ok done) g t h = planned m outcome answer work plan g t h
planned_by m outcome answer work plan (Err e) g t h = lacks outcome answer work g

pub made_by : (m : Node) (outcome : Outcome) (answer : Answer) (work : Work) (plan : Plan) (r : Result (Unit {0}) AllocError)
    → outcome ≡ Accepts answer work → told plan m ≡ answer → MakesOr m work plan r → Plans m outcome plan (refused r)
made_by m outcome answer work plan (Ok done) g t h = made m outcome answer work plan g t h
made_by m outcome answer work plan (Err e) g t h = lacks outcome answer work g

-- the same where it is told only where memory was there
pub told_by : (m : Node) (outcome : Outcome) (answer : Answer) (work : Work) (plan : Plan) (r : Result (Unit {0}) AllocError)
    → outcome ≡ Accepts answer work → OnOk r (told plan m ≡ answer) → Carries m work plan r → Plans m outcome plan (refused r)
told_by m outcome answer work plan (Ok done) g t h = planned m outcome answer work plan g t h
told_by m outcome answer work plan (Err e) g t h = lacks outcome answer work g
