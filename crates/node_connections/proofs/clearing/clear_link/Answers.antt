use Rattle.std.proofs.Common.{◌≡◌, rules, ap, subst, ◌∙◌}
use Rattle.dist_model.specs.Losses.{close_if_swept, sweep_end}
use Rattle.dist_model.specs.Node.{living}
use Rattle.dist_model.specs.Work.{at_work}
use Rattle.erl_names.specs.Ids.{pid_of}
use Rattle.erl_term.specs.declared.term.Pid.{Pid}
use Rattle.node_plan.proofs.PlanMakes.{makes_it}
use Rattle.node_plan.specs.Carried.{CarriesOut, MakesOr}
use Rattle.node_plan.specs.Seen.{seen}
use Rattle.node_tables.specs.Standings.{side_of}
use Rattle.node_connections.proofs.Cleared.{on_done, first_lives, same_sides}
use Rattle.node_connections.specs.Records.{has_records}
use Rattle.node_connections.proofs.clearing.clear_link.Goals as goal

pub take_link-requires-clause-living : goal.take_link-requires-clause-living
take_link-requires-clause-living c =
    let m = seen c.args.node.now in
    let link = c.args.link.now in
    let same : c.in_ok-process.process ≡ pid_of m.mint link.id = search rules in
    ap (living m) same ∙ first_lives c.args.node.now c.args.side.now.peer link.id link.partner.now link.end c.requires.next.first

pub returns-clause-makes : goal.returns-clause-makes
returns-clause-makes c =
    let m = seen c.args.node.now in
    let side = c.args.side.now in
    let link = c.args.link.now in
    let p = c.in_ok-process.process in
    let work = sweep_end link.end p link.partner.now (at_work m) in
    let same : p ≡ pid_of m.mint link.id = search rules in
    let h : CarriesOut c.take_link.new.plan m work =
    c.in_ok-take_link.ensures.carries (at_work m) (c.answers.ensures.carries m (at_work m) c.requires.carries) in
    let left : c.link_leaves-left.result ≡ has_records side.peer work.node =
    c.link_leaves-left.ensures ∙ ap (λ y. has_records y work.node) c.atom.ensures in
    let P : Pid → Type 0 =
    λ x. MakesOr m (close_if_swept side.trunk (side_of side) (sweep_end link.end x link.partner.now (at_work m)))
    c.close_unless.new.plan c.close_unless.result in
    subst P same
    (c.close_unless.ensures.makes work (same_sides c.take_link.new.plan m work h) left (makes_it c.take_link.new.plan m work h))

pub returns-clause-told : goal.returns-clause-told
returns-clause-told c =
    let m = seen c.args.node.now in
    on_done c.close_unless.result (c.close_unless.ensures.told m ∙ c.in_ok-take_link.ensures.told m ∙ c.answers.ensures.told m)
