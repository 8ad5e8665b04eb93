use Rattle.std.proofs.Common.{◌≡◌, subst, rules}
use Rattle.dist_model.specs.Monitoring.{unwatch}
use Rattle.dist_model.specs.Telling.{object}
use Rattle.dist_model.specs.Work.{put}
use Rattle.erl_term.specs.Data.{Data}
use Rattle.erl_term.specs.declared.term.Reference.{Reference}
use Rattle.exit_core.specs.Messages.{down_term}
use Rattle.node_plan.specs.Carried.{Carries, CarriesOut}
use Rattle.node_plan.specs.Targets.{target_of}
use Rattle.node_processes.proofs.taking_monitors.take_down.Goals as goal

pub returns-clause-carries : goal.returns-clause-carries
returns-clause-carries c = λ m w alive h.
    let p = c.args.owner.now in
    let r = c.args.reference.now in
    let same : c.in_ok-copied.field-0 ≡ r = search rules in
    let message : c.in_ok-message.message ≡ down_term r (object (target_of c.args.target)) c.args.reason.now = search rules in
    let P : Reference → Type 0 = λ r. CarriesOut c.unwatch.new.self m (unwatch r w) in
    let Q : Data → Type 0 = λ x. Carries m (put p x (unwatch r w)) c.put.new.self c.put.result in
    subst Q message (c.put.ensures.carries m (unwatch r w) alive (subst P same (c.unwatch.ensures.carries m w h)))
