-- The signals and the messages about a monitor's target.
-- (ERTS User's Guide, Distribution Protocol, Protocol between Connected Nodes; Reference Manual, Processes, Monitors.)
use Rattle.dist_model.specs.Work.{Addressed, to_node, to_pid}
use Rattle.erl_control.specs.declared.signal.Signal.{Signal}
use Rattle.erl_term.specs.Data.{Data, pid}
use Rattle.erl_term.specs.declared.term.Pid.{Pid}
use Rattle.erl_term.specs.declared.term.Reference.{Reference}
use Rattle.exit_core.specs.Messages.{named_term}
use Rattle.monitor_core.specs.Monitors.{target_node}
use Rattle.monitor_core.specs.declared.monitor.Target.{Target}

-- ---- the signals, by pid or by name: MONITOR_P, DEMONITOR_P, and MONITOR_P_EXIT

abbrev pub monitor_signal : Pid → Target → Reference → Signal
monitor_signal p (Target.Pid q) r = Signal.Monitor p q r
monitor_signal p (Target.Name name node) r = Signal.MonitorName p name r

abbrev pub demonitor_signal : Pid → Target → Reference → Signal
demonitor_signal p (Target.Pid q) r = Signal.Demonitor p q r
demonitor_signal p (Target.Name name node) r = Signal.DemonitorName p name r

abbrev pub monitor_exit_signal : Target → Pid → Reference → Data → Signal
monitor_exit_signal (Target.Pid q) p r reason = Signal.MonitorExit q p r reason
monitor_exit_signal (Target.Name name node) p r reason = Signal.MonitorNameExit name p r reason

-- ---- the first two go to the target, the third to the owner

abbrev pub asked : Pid → Target → Reference → Addressed
asked p target r = to_node (target_node target) (monitor_signal p target r)

abbrev pub taken_back : Pid → Target → Reference → Addressed
taken_back p target r = to_node (target_node target) (demonitor_signal p target r)

abbrev pub told_end : Target → Pid → Reference → Data → Addressed
told_end target p r reason = to_pid p (monitor_exit_signal target p r reason)

-- the object of its DOWN
abbrev pub object : Target → Data
object (Target.Pid q) = pid q
object (Target.Name name node) = named_term name node
