use Rattle.std.proofs.Common.{◌≡◌, subst, rules}
use Rattle.dist_model.specs.Monitoring.{unregister}
use Rattle.erl_term.specs.declared.term.Reference.{Reference}
use Rattle.node_plan.specs.Carried.{CarriesOut}
use Rattle.node_processes.proofs.taking_monitors.unregister.Goals as goal

pub returns-clause-carries : goal.returns-clause-carries
returns-clause-carries c = λ m w h.
    let same : c.in_ok-copied.field-0 ≡ c.args.reference.now = search rules in
    let P : Reference → Type 0 = λ r. CarriesOut c.unregister.new.self m (unregister r w) in
    subst P same (c.unregister.ensures.carries m w h)
