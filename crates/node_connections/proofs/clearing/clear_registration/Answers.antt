use Rattle.std.proofs.Common.{◌≡◌, ap, ◌∙◌}
use Rattle.dist_model.specs.Monitoring.{unregister}
use Rattle.dist_model.specs.Work.{Work, at_work}
use Rattle.node_plan.proofs.PlanMakes.{makes_it}
use Rattle.node_plan.specs.Carried.{CarriesOut}
use Rattle.node_plan.specs.Seen.{seen}
use Rattle.node_connections.proofs.Cleared.{on_done, same_sides}
use Rattle.node_connections.specs.Records.{has_records}
use Rattle.node_connections.proofs.clearing.clear_registration.Goals as goal

pub returns-clause-makes : goal.returns-clause-makes
returns-clause-makes c =
    let m = seen c.args.node.now in
    let side = c.args.side.now in
    let work : Work = unregister c.args.reference.now (at_work m) in
    let h : CarriesOut c.take_registration.new.plan m work =
    c.in_ok-take_registration.ensures.carries m (at_work m) (c.answers.ensures.carries m (at_work m) c.requires.carries) in
    let left : c.registration_leaves-left.result ≡ has_records side.peer work.node =
    c.registration_leaves-left.ensures ∙ ap (λ y. has_records y work.node) c.atom.ensures in
    c.close_unless.ensures.makes work (same_sides c.take_registration.new.plan m work h) left
    (makes_it c.take_registration.new.plan m work h)

pub returns-clause-told : goal.returns-clause-told
returns-clause-told c =
    let m = seen c.args.node.now in
    on_done c.close_unless.result (c.close_unless.ensures.told m ∙ c.in_ok-take_registration.ensures.told m ∙ c.answers.ensures.told m)
