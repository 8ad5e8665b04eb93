-- Whether changes add a record towards a peer: a link to a process there, a monitor of one, or one that it has of a process here.
-- (Reference Manual, Processes, Links and Monitors.)
use Rattle.std.specs.Prelude.{Bool, true, false, ◌&&◌}
use Rattle.dist_model.specs.Names.{Name, same_name}
use Rattle.link_core.specs.declared.end.LinkSignal.TheVariants as signal
use Rattle.node_plan.specs.declared.change.Change.{Change}
use Rattle.node_plan.specs.declared.change.Change.TheVariants as change
use Rattle.node_plan.specs.declared.change.LinkChange.{LinkChange}
use Rattle.node_plan.specs.declared.change.LinkChange.TheVariants as link
use Rattle.monitor_core.specs.Monitors.{target_node}
use Rattle.monitor_core.specs.declared.monitor.Registration.{Registration}
use Rattle.monitor_core.specs.declared.monitor.Watch.{Watch}
use Rattle.node_plan.specs.declared.change.MonitorChange.{MonitorChange}
use Rattle.node_plan.specs.declared.change.MonitorChange.TheVariants as monitor
use Rattle.node_tables.specs.declared.end_change.EndChange.{EndChange}
use Rattle.node_tables.specs.declared.end_change.EndChange.TheVariants.{Links, Receives}

-- an end comes where there was none
abbrev pub is_new : EndChange → Bool
is_new Links = true
is_new (Receives signal.Link) = true
is_new _ = false

abbrev pub links_towards : Name → LinkChange → Bool
links_towards peer link.Stays = false
links_towards peer (link.Becomes q how) = is_new how && same_name q.node peer

abbrev pub changes_towards : Name → Change → Bool
changes_towards peer (change.Of p e l) = links_towards peer e
changes_towards peer _ = false

abbrev pub watches_towards : Name → MonitorChange Watch → Bool
watches_towards peer (monitor.Adds r m) = same_name (target_node m.target) peer
watches_towards peer _ = false

abbrev pub registers_towards : Name → MonitorChange Registration → Bool
registers_towards peer (monitor.Adds r m) = same_name m.owner.node peer
registers_towards peer _ = false
