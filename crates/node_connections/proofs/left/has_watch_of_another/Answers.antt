use Rattle.std.proofs.Common.{◌≡◌, ◌&&◌, true, false, not, None, Some, refl, sym, ap, ◌∙◌}
use Rattle.std.specs.FinMap as fm
use Rattle.std.specs.List.{list_any}
use Rattle.std.specs.Option.{option_copied}
use Rattle.dist_model.specs.Names.{same_name, same_pid}
use Rattle.erl_term.specs.declared.term.Reference.{Reference}
use Rattle.monitor_core.specs.Monitors.{WatchMap, target_node}
use Rattle.monitor_core.specs.Sought.{is_behind}
use Rattle.monitor_core.specs.declared.monitor.Watch.{Watch}
use Rattle.monitor_core.proofs.Walks.{fewer_ahead, next, walked, walked_all, walked_more, walked_none}
use Rattle.node_plan.specs.Seen.{seen}
use Rattle.node_connections.proofs.Kept.{and_false, any_filter, any_found, any_more, left_by_owner, next_passes}
use Rattle.node_connections.proofs.left.has_watch_of_another.Goals as goal

pub loop-reference-init : goal.loop-reference-init
loop-reference-init c =
    let peer = c.args.peer.now in
    let process = c.args.process.now in
    let passes = λ (w : Watch). same_name (target_node w.target) peer in
    let test = λ (e : Reference × Watch). same_name (target_node e.1.target) peer && not (same_pid e.1.owner process) in
    let entries = fm.entries c.watches-watches.result.now.monitors in
    ap (list_any test) (walked_none passes entries)

pub loop-reference-smaller : goal.loop-reference-smaller
loop-reference-smaller c =
    let peer = c.args.peer.now in
    let process = c.args.process.now in
    let passes = λ (w : Watch). same_name (target_node w.target) peer in
    let test = λ (e : Reference × Watch). same_name (target_node e.1.target) peer && not (same_pid e.1.owner process) in
    let entries = fm.entries c.watches-watches.result.now.monitors in
    let behind = option_copied c.loop-reference.behind in
    let item = c.in-Some.field-0.now in
    let found : next passes behind entries ≡ Some item = sym c.next_towards.ensures ∙ ap option_copied c.in-Some.is in
    fewer_ahead passes behind entries item found

pub loop-reference-preserved : goal.loop-reference-preserved
loop-reference-preserved c =
    let peer = c.args.peer.now in
    let process = c.args.process.now in
    let passes = λ (w : Watch). same_name (target_node w.target) peer in
    let test = λ (e : Reference × Watch). same_name (target_node e.1.target) peer && not (same_pid e.1.owner process) in
    let entries = fm.entries c.watches-watches.result.now.monitors in
    let behind = option_copied c.loop-reference.behind in
    let item = c.in-Some.field-0.now in
    let found : next passes behind entries ≡ Some item = sym c.next_towards.ensures ∙ ap option_copied c.in-Some.is in
    let same = sym c.same_pid.ensures ∙ c.if-not-same_pid.false in
    let not_it : test item ≡ false =
    ap (λ b. same_name (target_node item.1.target) peer && not b) same ∙ and_false (same_name (target_node item.1.target) peer) in
    ap (list_any test) (walked_more passes behind entries item (fm.entries_sorted c.watches-watches.result.now.monitors) found)
    ∙ any_more test (walked passes behind entries) item c.loop-reference.invariant not_it

pub returns-then-not-same_pid : goal.returns-then-not-same_pid
returns-then-not-same_pid c =
    let peer = c.args.peer.now in
    let process = c.args.process.now in
    let passes = λ (w : Watch). same_name (target_node w.target) peer in
    let test = λ (e : Reference × Watch). same_name (target_node e.1.target) peer && not (same_pid e.1.owner process) in
    let entries = fm.entries c.watches-watches.result.now.monitors in
    let behind = option_copied c.loop-reference.behind in
    let item = c.in-Some.field-0.now in
    let found : next passes behind entries ≡ Some item = sym c.next_towards.ensures ∙ ap option_copied c.in-Some.is in
    let here = ap (λ (monitors : WatchMap). list_any test (fm.entries monitors)) c.watches-watches.ensures in
    let other = sym c.same_pid.ensures ∙ c.if-not-same_pid.true in
    let it : test item ≡ true =
    ap (λ b. b && not (same_pid item.1.owner process)) (next_passes passes behind entries item found) ∙ ap not other in
    sym (any_found (λ r w. is_behind behind r && passes w) test entries item found it) ∙ here
    ∙ left_by_owner (seen c.args.node.now).watches (λ r w. same_name (target_node w.target) peer) test process (λ e. refl)

pub returns : goal.returns
returns c =
    let peer = c.args.peer.now in
    let process = c.args.process.now in
    let passes = λ (w : Watch). same_name (target_node w.target) peer in
    let test = λ (e : Reference × Watch). same_name (target_node e.1.target) peer && not (same_pid e.1.owner process) in
    let entries = fm.entries c.watches-watches.result.now.monitors in
    let behind = option_copied c.loop-reference.behind in
    let here = ap (λ (monitors : WatchMap). list_any test (fm.entries monitors)) c.watches-watches.ensures in
    let none : next passes behind entries ≡ None = sym c.next_towards.ensures ∙ ap option_copied c.in_default.is in
    sym c.loop-reference.invariant ∙ ap (list_any test) (walked_all passes behind entries none)
    ∙ any_filter (λ (e : Reference × Watch). passes e.1) test entries (λ e k. ap (λ b. b && not (same_pid e.1.owner process)) k) ∙ here
    ∙ left_by_owner (seen c.args.node.now).watches (λ r w. same_name (target_node w.target) peer) test process (λ e. refl)
