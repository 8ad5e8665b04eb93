use Rattle.std.proofs.Common.{◌≡◌, ◌&&◌, false, not}
use Rattle.std.specs.FinMap as fm
use Rattle.std.specs.List.{list_any}
use Rattle.std.specs.Option.{option_copied}
use Rattle.dist_model.specs.Names.{same_name, same_pid}
use Rattle.erl_term.specs.declared.term.Reference.{Reference}
use Rattle.monitor_core.specs.Monitors.{target_node}
use Rattle.monitor_core.specs.declared.monitor.Watch.{Watch}
use Rattle.monitor_core.proofs.Walks.{ahead, walked}
use Rattle.node_connections.proofs.left.has_watch_of_another.Given as goal

-- none of those so far is of another process
abbrev pub invariant-loop-reference : goal.invariant-loop-reference
invariant-loop-reference l =
    list_any (λ (e : Reference × Watch). same_name (target_node e.1.target) l.peer && not (same_pid e.1.owner l.process))
    (walked (λ (m : Watch). same_name (target_node m.target) l.peer) (option_copied l.behind) (fm.entries l.watches.monitors)) ≡ false

abbrev pub decreases-loop-reference : goal.decreases-loop-reference
decreases-loop-reference l = ahead (option_copied l.behind) (fm.entries l.watches.monitors)
