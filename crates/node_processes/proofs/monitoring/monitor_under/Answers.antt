use Rattle.std.proofs.Common.{◌≡◌, Result, Ok, Err, OnOk, subst, rules, ap, ◌∙◌}
use Rattle.std.specs.declared.alloc.AllocError.{AllocError}
use Rattle.dist_model.specs.Monitoring.{monitor}
use Rattle.dist_model.specs.Work.{at_work, draw}
use Rattle.dist_model.specs.declared.report.Answer.{Answer}
use Rattle.erl_names.specs.Draw as kind
use Rattle.erl_names.specs.Ids.{reference_of}
use Rattle.erl_term.specs.declared.term.Reference.{Reference}
use Rattle.node_plan.specs.Carried.{Carries}
use Rattle.node_plan.specs.Seen.{seen}
use Rattle.node_plan.specs.Targets.{target_of}
use Rattle.node_processes.proofs.monitoring.monitor_under.Goals as goal

on_ok : (r : Result (Unit {0}) AllocError) (P : Type 0) → P → OnOk r P
on_ok (Ok done) P h = h
on_ok (Err e) P h = tt

pub returns-clause-carries : goal.returns-clause-carries
returns-clause-carries c = λ h.
    let m = seen c.args.node.now in
    let is : c.in_ok-reference.reference ≡ reference_of m.mint c.args.count = search rules in
    let P : Reference → Type 0 =
    λ r. Carries m
    (monitor r c.args.owner.now (target_of c.args.target) (draw kind.Reference (at_work m))) c.monitor_as.new.plan c.monitor_as.result in
    subst P is (c.monitor_as.ensures.carries (c.answers.ensures.carries m (at_work m) h))

pub returns-clause-told : goal.returns-clause-told
returns-clause-told c =
    let m = seen c.args.node.now in
    let is : c.in_ok-told.told ≡ reference_of m.mint c.args.count = search rules in
    on_ok c.monitor_as.result _ (c.monitor_as.ensures.told m ∙ c.answers.ensures.told m ∙ ap Answer.Reference is)
