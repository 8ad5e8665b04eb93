use Rattle.std.proofs.Common.{◌≡◌, ◌≤◌}
use Rattle.std.specs.FinMap as map
use Rattle.monitor_core.specs.Left.{without}
use Rattle.monitor_core.proofs.monitors.Monitors.remove_of.Given as goal

abbrev pub invariant-loop : goal.invariant-loop
invariant-loop g l = record {
  left : without g.M.Kept.process_of l.self.monitors l.process ≡ without g.M.Kept.process_of l.fn.self.monitors l.process;
  room : l.fn.self.room ≤ l.self.room;
}

abbrev pub decreases-loop : goal.decreases-loop
decreases-loop g l = map.len l.self.monitors
