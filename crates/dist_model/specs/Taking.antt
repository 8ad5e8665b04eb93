-- A signal is taken by the process that it names, or by the process that has the name.
-- (ERTS User's Guide, Distribution Protocol, Protocol between Connected Nodes; Reference Manual, Processes, Registered Processes.)
use Rattle.std.specs.Prelude.{Option, None, Some, if◌then◌else◌}
use Rattle.std.specs.FinMap as fm
use Rattle.dist_model.specs.Exits.{other_exit}
use Rattle.dist_model.specs.Items.{Handshake, Item, Signalled, Tick}
use Rattle.dist_model.specs.Linking.{take_link}
use Rattle.dist_model.specs.Monitoring.{take_demonitor, take_monitor, take_monitor_exit, take_monitor_name}
use Rattle.dist_model.specs.Names.{Name}
use Rattle.dist_model.specs.Node.{living}
use Rattle.dist_model.specs.Work.{Work, put}
use Rattle.erl_control.specs.declared.signal.Signal.{Signal}
use Rattle.erl_term.specs.Data.{Data}
use Rattle.erl_term.specs.declared.term.Pid.{Pid}
use Rattle.link_core.specs.News.{Exited, Signals}
use Rattle.link_core.specs.declared.end.LinkSignal.{LinkSignal}
use Rattle.monitor_core.specs.declared.monitor.Target.{Target}

-- a message comes to a process. One to a process that has ended is lost
abbrev pub take_message : Pid → Data → Work → Work
take_message p message work = if living work.node p then put p message work else work

-- a message comes to the process that has a name. One to a name that nobody has is lost
abbrev pub take_named : (holder : Option Pid) → Data → Work → Work
take_named None message work = work
take_named (Some p) message work = take_message p message work

-- `source` is the node that the signal comes from: the peer of the trunk, or the node itself. A name in a signal is one of the node
-- that takes it. A name in MONITOR_P_EXIT is one of the source
abbrev pub take : (source : Name) → Signal → Work → Work
take source (Signal.Link from to) work = take_link to from (Signals LinkSignal.Link) work
take source (Signal.Send to message) work = take_message to message work
take source (Signal.RegSend from name message) work = take_named (fm.get work.node.names name) message work
take source (Signal.Exit from to reason) work = take_link to from (Exited reason) work
take source (Signal.Exit2 from to reason) work = if living work.node to then other_exit to from reason work else work
take source (Signal.Monitor from to r) work = take_monitor from to r work
take source (Signal.MonitorName from name r) work = take_monitor_name from name r work
take source (Signal.Demonitor from to r) work = take_demonitor from (Target.Pid to) r work
take source (Signal.DemonitorName from name r) work = take_demonitor from (Target.Name name work.node.mint.name) r work
take source (Signal.MonitorExit from to r reason) work = take_monitor_exit (Target.Pid from) to r reason work
take source (Signal.MonitorNameExit name to r reason) work = take_monitor_exit (Target.Name name source) to r reason work
take source (Signal.UnlinkId id from to) work = take_link to from (Signals (LinkSignal.Unlink id)) work
take source (Signal.UnlinkIdAck id from to) work = take_link to from (Signals (LinkSignal.Ack id)) work

-- a message of the handshake is no process's, and a tick is nobody's
abbrev pub take_item : (source : Name) → Item → Work → Work
take_item source (Signalled signal payload) work = take source signal work
take_item source (Handshake message) work = work
take_item source Tick work = work
