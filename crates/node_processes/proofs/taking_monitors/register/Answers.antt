use Rattle.std.proofs.Common.{◌≡◌, subst, rules}
use Rattle.dist_model.specs.Monitoring.{bound, register}
use Rattle.erl_term.specs.declared.term.Reference.{Reference}
use Rattle.monitor_core.specs.declared.monitor.Registration.{Registration}
use Rattle.node_plan.specs.Carried.{CarriesOut}
use Rattle.node_plan.specs.Targets.{target_of}
use Rattle.node_processes.proofs.taking_monitors.register.Goals as goal

pub returns-clause-carries : goal.returns-clause-carries
returns-clause-carries c = λ m w h.
    let r = c.in_ok-copied.field-0 in
    let owned = bound c.args.owner.now (target_of c.args.target) c.args.held.now in
    let same : r ≡ c.args.reference.now = search rules in
    let between : c.in_ok-registration.registration ≡ owned = search rules in
    let P : Reference → Registration → Type 0 = λ r o. CarriesOut c.register.new.self m (register r o w) in
    subst (λ r. P r owned) same (subst (P r) between (c.register.ensures.carries m w h))
