use Rattle.std.proofs.Common.{◌≡◌, subst, rules}
use Rattle.dist_model.specs.Monitoring.{unwatch}
use Rattle.erl_term.specs.declared.term.Reference.{Reference}
use Rattle.node_plan.specs.Carried.{CarriesOut}
use Rattle.node_plan.specs.Seen.{seen}
use Rattle.node_processes.proofs.monitoring.demonitor_own.Goals as goal

pub returns-clause-carries : goal.returns-clause-carries
returns-clause-carries c = λ w h.
    let m = seen c.args.node.now in
    let same : c.in_ok-copied.field-0 ≡ c.args.reference.now = search rules in
    let P : Reference → Type 0 = λ r. CarriesOut c.unwatch.new.self m (unwatch r w) in
    c.tell_demonitor.ensures.carries (unwatch c.args.reference.now w) (subst P same (c.unwatch.ensures.carries m w h))
