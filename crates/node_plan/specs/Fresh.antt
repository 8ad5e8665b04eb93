-- A monitor comes under a reference that has none.
use Rattle.std.specs.Prelude.{◌≡◌, None}
use Rattle.std.specs.FinMap as fm
use Rattle.monitor_core.specs.Monitors.{WatchMap}
use Rattle.monitor_core.specs.declared.monitor.Watch.{Watch}
use Rattle.node_plan.specs.declared.change.MonitorChange.{MonitorChange}
use Rattle.node_plan.specs.declared.change.MonitorChange.TheVariants as monitor

abbrev pub IsFresh : MonitorChange Watch → WatchMap → Type 0
IsFresh monitor.Stays watches = Unit {0}
IsFresh (monitor.Adds r m) watches = fm.get watches r ≡ None
IsFresh (monitor.Removes r) watches = Unit {0}
