use Rattle.std.proofs.Common.{◌≡◌, subst, rules, ◌∙◌}
use Rattle.dist_model.specs.Monitoring.{watch}
use Rattle.erl_term.specs.declared.term.Reference.{Reference}
use Rattle.monitor_core.specs.Monitors.{watch_of}
use Rattle.monitor_core.specs.declared.monitor.Watch.{Watch}
use Rattle.node_plan.specs.Carried.{CarriesOut}
use Rattle.node_plan.specs.Seen.{seen}
use Rattle.node_plan.specs.Targets.{target_of}
use Rattle.node_processes.proofs.monitoring.monitor_reached.Goals as goal

pub returns-clause-carries : goal.returns-clause-carries
returns-clause-carries c = λ w h.
    let m = seen c.args.node.now in
    let p = c.args.owner.now in
    let owned = watch_of p (target_of c.args.target) in
    let r = c.in_ok-copied.field-0 in
    let same : r ≡ c.args.reference.now = search rules in
    let between : c.in_ok-watch.watch ≡ owned = search rules in
    let P : Reference → Watch → Type 0 = λ r o. CarriesOut c.watch.new.self m (watch r o w) in
    let k = c.watch.ensures.carries m w (same ∙ c.requires.next) c.requires.below h in
    c.tell_monitor.ensures.carries (watch c.args.reference.now owned w)
    (subst (λ r. P r owned) same (subst (P r) between k))
