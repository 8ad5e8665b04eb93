-- Signals whose parts are borrowed, and signals and items whose parts lie in the bytes that were read.
use Rattle.std.specs.Prelude.{ℕ, Option, Some, None, Result, Ok, Err}
use Rattle.erl_control.specs.declared.signal.Signal.{Signal}
use Rattle.erl_control.specs.declared.signal.Signal.TheVariants as signal
use Rattle.erl_control.specs.declared.signal.Item.{Item}
use Rattle.erl_control.specs.declared.signal.Item.TheVariants as item
use Rattle.erl_control.specs.declared.signal_parts.SignalParts.{SignalParts}
use Rattle.erl_control.specs.declared.signal_parts.SignalParts.TheVariants as borrowed
use Rattle.erl_control.specs.declared.signal_ref.SignalRef.{SignalRef}
use Rattle.erl_control.specs.declared.signal_ref.SignalRef.TheVariants as lying
use Rattle.erl_control.specs.declared.signal_ref.ItemRef.{ItemRef}
use Rattle.erl_control.specs.declared.signal_ref.ItemRef.TheVariants.{Tick, Signal as SignalItem}
use Rattle.erl_control.specs.declared.error.FrameError.{FrameError}
use Rattle.erl_control.specs.declared.error.FrameFault.{FrameFault}
use Rattle.erl_control.specs.Numbers.{error_of}

-- the signal whose parts are borrowed
abbrev pub signal_of : SignalParts → Signal
signal_of (borrowed.Link from to) = signal.Link from.now to.now
signal_of (borrowed.Send to message) = signal.Send to.now message.now
signal_of (borrowed.RegSend from name message) = signal.RegSend from.now name.now message.now
signal_of (borrowed.Exit from to reason) = signal.Exit from.now to.now reason.now
signal_of (borrowed.Exit2 from to reason) = signal.Exit2 from.now to.now reason.now
signal_of (borrowed.Monitor from to r) = signal.Monitor from.now to.now r.now
signal_of (borrowed.MonitorName from name r) = signal.MonitorName from.now name.now r.now
signal_of (borrowed.Demonitor from to r) = signal.Demonitor from.now to.now r.now
signal_of (borrowed.DemonitorName from name r) = signal.DemonitorName from.now name.now r.now
signal_of (borrowed.MonitorExit from to r reason) = signal.MonitorExit from.now to.now r.now reason.now
signal_of (borrowed.MonitorNameExit name to r reason) = signal.MonitorNameExit name.now to.now r.now reason.now
signal_of (borrowed.UnlinkId id from to) = signal.UnlinkId id from.now to.now
signal_of (borrowed.UnlinkIdAck id from to) = signal.UnlinkIdAck id from.now to.now

-- the signal whose parts lie in the bytes
abbrev pub signal_in : SignalRef → Signal
signal_in (lying.Link from to) = signal.Link from to
signal_in (lying.Send to message) = signal.Send to message
signal_in (lying.RegSend from name message) = signal.RegSend from name message
signal_in (lying.Exit from to reason) = signal.Exit from to reason
signal_in (lying.Exit2 from to reason) = signal.Exit2 from to reason
signal_in (lying.Monitor from to r) = signal.Monitor from to r
signal_in (lying.MonitorName from name r) = signal.MonitorName from name r
signal_in (lying.Demonitor from to r) = signal.Demonitor from to r
signal_in (lying.DemonitorName from name r) = signal.DemonitorName from name r
signal_in (lying.MonitorExit from to r reason) = signal.MonitorExit from to r reason
signal_in (lying.MonitorNameExit name to r reason) = signal.MonitorNameExit name to r reason
signal_in (lying.UnlinkId id from to) = signal.UnlinkId id from to
signal_in (lying.UnlinkIdAck id from to) = signal.UnlinkIdAck id from to

-- the item whose parts lie in the bytes
abbrev pub item_in : ItemRef → Item
item_in Tick = item.Tick
item_in (SignalItem s) = item.Signal (signal_in s)

-- the answer of which the item lies in the bytes
abbrev pub answer_in : Result (Option (ItemRef × ℕ)) FrameFault → Result (Option (Item × ℕ)) FrameError
answer_in (Ok None) = Ok None
answer_in (Ok (Some x)) = Ok (Some (item_in x.0, x.1))
answer_in (Err fault) = Err (error_of fault)
