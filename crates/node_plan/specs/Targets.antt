-- The target of a monitor whose parts are borrowed.
use Rattle.monitor_core.specs.declared.monitor.Target.{Target}
use Rattle.node_plan.specs.declared.target.TargetParts.{TargetParts}
use Rattle.node_plan.specs.declared.target.TargetParts.TheVariants as borrowed

abbrev pub target_of : TargetParts → Target
target_of (borrowed.Pid pid) = Target.Pid pid.now
target_of (borrowed.Name name node) = Target.Name name.now node.now
