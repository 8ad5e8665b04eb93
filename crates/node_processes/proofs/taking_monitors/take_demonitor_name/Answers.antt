use Rattle.std.proofs.Common.{sym, ◌∙◌, subst}
use Rattle.dist_model.specs.Monitoring.{take_demonitor}
use Rattle.dist_model.specs.Names.{Name}
use Rattle.monitor_core.specs.declared.monitor.Target.{Target}
use Rattle.node_plan.specs.Carried.{Carries}
use Rattle.node_plan.specs.Seen.{seen}
use Rattle.node_processes.proofs.Unchanged.{same_own}
use Rattle.node_processes.proofs.taking_monitors.take_demonitor_name.Goals as goal

pub returns-clause-carries : goal.returns-clause-carries
returns-clause-carries c = λ w h.
    let m = seen c.args.node.now in
    let own = c.atom-at.ensures ∙ c.name.ensures ∙ sym (same_own c.args.plan.now m w h c.requires.change c.requires.draws) in
    let P : Name → Type 0 =
    λ a. Carries m (take_demonitor c.args.owner.now (Target.Name c.args.name.now a) c.args.reference.now w) c.take_demonitor.new.plan
    c.take_demonitor.result in
    subst P own (c.take_demonitor.ensures.carries w h)
