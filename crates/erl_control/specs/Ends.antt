-- The sender and the receiver that a signal names. A signal to a registered name names no
-- receiver, and one from a name no sender.
-- (ERTS User's Guide, Distribution Protocol, Protocol between Connected Nodes.)
use Rattle.std.specs.Prelude.{Option, None, Some}
use Rattle.erl_control.specs.declared.signal.Signal.{Signal}
use Rattle.erl_term.specs.declared.term.Pid.{Pid}

-- SEND names no sender
abbrev pub sender_of : Signal → Option Pid
sender_of (Signal.Link from to) = Some from
sender_of (Signal.Send to message) = None
sender_of (Signal.RegSend from name message) = Some from
sender_of (Signal.Exit from to reason) = Some from
sender_of (Signal.Exit2 from to reason) = Some from
sender_of (Signal.Monitor from to r) = Some from
sender_of (Signal.MonitorName from name r) = Some from
sender_of (Signal.Demonitor from to r) = Some from
sender_of (Signal.DemonitorName from name r) = Some from
sender_of (Signal.MonitorExit from to r reason) = Some from
sender_of (Signal.MonitorNameExit name to r reason) = None
sender_of (Signal.UnlinkId id from to) = Some from
sender_of (Signal.UnlinkIdAck id from to) = Some from

abbrev pub receiver_of : Signal → Option Pid
receiver_of (Signal.Link from to) = Some to
receiver_of (Signal.Send to message) = Some to
receiver_of (Signal.RegSend from name message) = None
receiver_of (Signal.Exit from to reason) = Some to
receiver_of (Signal.Exit2 from to reason) = Some to
receiver_of (Signal.Monitor from to r) = Some to
receiver_of (Signal.MonitorName from name r) = None
receiver_of (Signal.Demonitor from to r) = Some to
receiver_of (Signal.DemonitorName from name r) = None
receiver_of (Signal.MonitorExit from to r reason) = Some to
receiver_of (Signal.MonitorNameExit name to r reason) = Some to
receiver_of (Signal.UnlinkId id from to) = Some to
receiver_of (Signal.UnlinkIdAck id from to) = Some to
