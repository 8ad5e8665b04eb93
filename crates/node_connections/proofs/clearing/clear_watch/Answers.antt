use Rattle.std.proofs.Common.{◌≡◌, true, sym, ap, subst, ◌∙◌, Some}
use Rattle.dist_model.proofs.Entries.{watch_found}
use Rattle.dist_model.specs.Monitoring.{unwatch}
use Rattle.dist_model.specs.Names.{Name}
use Rattle.dist_model.specs.Node.{living}
use Rattle.dist_model.specs.Telling.{object}
use Rattle.dist_model.specs.Work.{Work, at_work, put}
use Rattle.exit_core.specs.Messages.{down_term}
use Rattle.link_core.specs.News.{noconnection}
use Rattle.node_plan.proofs.PlanMakes.{makes_it}
use Rattle.node_plan.specs.Carried.{CarriesOut}
use Rattle.node_plan.specs.Seen.{seen}
use Rattle.node_connections.proofs.Cleared.{on_done, same_sides, watched_from}
use Rattle.node_connections.specs.Ahead.{NoneWatchedBefore}
use Rattle.node_connections.specs.Records.{has_records}
use Rattle.node_connections.proofs.clearing.clear_watch.Goals as goal

pub watch_leaves-left-requires-clause-watches : goal.watch_leaves-left-requires-clause-watches
watch_leaves-left-requires-clause-watches c =
    let m = seen c.args.node.now in
    let watch = c.args.watch.now in
    let P : Name → Type 0 = λ y. NoneWatchedBefore y (Some watch.0) m.watches in
    subst P (sym c.atom.ensures) (watched_from c.args.side.now.peer m.watches watch.0 watch.1 c.requires.first)

pub returns-clause-makes : goal.returns-clause-makes
returns-clause-makes c =
    let m = seen c.args.node.now in
    let side = c.args.side.now in
    let watch = c.args.watch.now in
    let work : Work = put watch.1.owner (down_term watch.0 (object watch.1.target) noconnection) (unwatch watch.0 (at_work m)) in
    let lives : living m watch.1.owner ≡ true =
    c.args.node.now.steady.owners watch.0 watch.1 (watch_found side.peer m.watches watch c.requires.first).0 in
    let h : CarriesOut c.take_watch.new.plan m work =
    c.in_ok-take_watch.ensures.carries m (at_work m) lives (c.answers.ensures.carries m (at_work m) c.requires.carries) in
    let left : c.watch_leaves-left.result ≡ has_records side.peer work.node =
    c.watch_leaves-left.ensures ∙ ap (λ y. has_records y work.node) c.atom.ensures in
    c.close_unless.ensures.makes work (same_sides c.take_watch.new.plan m work h) left (makes_it c.take_watch.new.plan m work h)

pub returns-clause-told : goal.returns-clause-told
returns-clause-told c =
    let m = seen c.args.node.now in
    on_done c.close_unless.result (c.close_unless.ensures.told m ∙ c.in_ok-take_watch.ensures.told m ∙ c.answers.ensures.told m)
