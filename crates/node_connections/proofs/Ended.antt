-- An event that made all it was to make, or wanted memory.
use Rattle.std.proofs.Common.{◌≡◌, Result, Ok, Err, OnOk}
use Rattle.std.specs.declared.alloc.AllocError.{AllocError}
use Rattle.dist_model.specs.Commands.{Accepts, Outcome}
use Rattle.dist_model.specs.Node.{Node}
use Rattle.dist_model.specs.Work.{Work}
use Rattle.dist_model.specs.declared.report.Answer.{Answer}
use Rattle.node_plan.proofs.Outcomes.{lacks, made}
use Rattle.node_plan.specs.Carried.{MakesOr}
use Rattle.node_plan.specs.Planned.{Plans, refused}
use Rattle.node_plan.specs.Plans.{told}
use Rattle.node_plan.specs.declared.plan.Plan.{Plan}

pub on_ok : {P : Type 0} (r : Result (Unit {0}) AllocError) → P → OnOk r P
on_ok (Ok done) p = p
on_ok (Err e) p = tt

pub made_or : (m : Node) (outcome : Outcome) (answer : Answer) (work : Work) (plan : Plan) (r : Result (Unit {0}) AllocError)
    → outcome ≡ Accepts answer work → OnOk r (told plan m ≡ answer) → MakesOr m work plan r → Plans m outcome plan (refused r)
made_or m outcome answer work plan (Ok done) g t h = made m outcome answer work plan g t h
made_or m outcome answer work plan (Err e) g t h = lacks outcome answer work g
