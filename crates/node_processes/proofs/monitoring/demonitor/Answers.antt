use Rattle.std.proofs.Common.{◌≡◌, true, Some, Option, cond, ap, ◌∙◌, subst, rules}
use Rattle.std.specs.FinMap as fm
use Rattle.dist_model.specs.Commands.{Accepts, Outcome, Refuses}
use Rattle.dist_model.specs.Monitoring.{demonitor_by, unwatch}
use Rattle.dist_model.specs.Names.{same_pid}
use Rattle.dist_model.specs.Work.{at_work, post}
use Rattle.dist_model.specs.declared.report.Answer.{Answer}
use Rattle.dist_model.specs.Telling.{taken_back}
use Rattle.erl_term.specs.declared.refusal.Refusal.{Refusal}
use Rattle.monitor_core.specs.declared.monitor.Target.{Target}
use Rattle.monitor_core.specs.declared.monitor.Watch.{Watch}
use Rattle.node_plan.specs.Carried.{Carries}
use Rattle.node_plan.specs.Seen.{seen}
use Rattle.node_plan.proofs.Outcomes.{planned_by}
use Rattle.node_processes.proofs.monitoring.demonitor.Goals as goal

pub returns : goal.returns
returns c =
    let m = seen c.args.node.now in
    let p = c.args.owner.now in
    let r = c.args.reference.now in
    let held = c.in-Some.watch.now in
    let due : Option Watch → Outcome = λ o. demonitor_by o p r (at_work m) in
    let there : fm.get m.watches r ≡ Some held = search rules in
    let own : same_pid held.owner p ≡ true = search rules in
    let work = post (taken_back p held.target r) (unwatch r (at_work m)) in
    let goes =
    c.in_ok-acts.ensures.due (due (fm.get m.watches r)) ∙ ap due there
    ∙ ap (λ b. cond b (Accepts Answer.Done work) (Refuses Refusal.NotTheOwner)) own in
    rw c.or_refuse.ensures (planned_by m _ Answer.Done work c.demonitor_own.new.plan c.demonitor_own.result goes
    (c.demonitor_own.ensures.told m ∙ c.requires.told)
    (subst (λ (t : Target). Carries m (post (taken_back p t r) (unwatch r (at_work m))) c.demonitor_own.new.plan c.demonitor_own.result)
    c.of-target.ensures (c.demonitor_own.ensures.carries (at_work m) c.requires.carries)))
