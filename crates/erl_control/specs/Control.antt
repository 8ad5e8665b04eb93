-- The control term of each signal, and the message behind it.
-- (ERTS User's Guide, Distribution Protocol, Protocol between Connected Nodes; New Link Protocol.)
use Rattle.std.specs.Prelude.{ℕ, ◌≤◌, ◌<◌, ◌^◌, Bool, true, pos, List, [], ◌∷◌, length, Option, Some, None}
use Rattle.erl_term.specs.declared.term.Pid.{Pid}
use Rattle.erl_term.specs.Data.{Data, int, atom, tuple, pid, reference}
use Rattle.erl_term.specs.View.{items_of}
use Rattle.erl_term.specs.Canonical.{canonical, levels_of, IsWithin}
use Rattle.erl_control.specs.declared.fit.TheConstants.{MOST_PAYLOAD_LEVELS, MOST_PAYLOAD_BYTES}
use Rattle.erl_control.specs.declared.tags.TheConstants.{LINK, SEND, REG_SEND, EXIT, EXIT2, MONITOR_P, DEMONITOR_P}
use Rattle.erl_control.specs.declared.tags.TheConstants.{MONITOR_P_EXIT, UNLINK_ID, UNLINK_ID_ACK}
use Rattle.erl_control.specs.declared.tags.TheConstants.{PAYLOAD_EXIT, PAYLOAD_EXIT2, PAYLOAD_MONITOR_P_EXIT}
use Rattle.erl_control.specs.declared.signal.Signal.{Signal}
use Rattle.erl_control.specs.declared.signal.Signal.TheVariants.{Link, Send, RegSend, Exit, Exit2, Monitor, Demonitor}
use Rattle.erl_control.specs.declared.signal.Signal.TheVariants.{MonitorExit, UnlinkId, UnlinkIdAck}
use Rattle.erl_control.specs.declared.signal.Signal.TheVariants.{MonitorName, DemonitorName, MonitorNameExit}

abbrev pub row : ℕ → List Data → Data
row tag fields = tuple (items_of (int (pos tag) ∷ fields))

-- SEND has a field that nobody uses: any term
abbrev pub send_term : Data → Pid → Data
send_term unused to = row SEND (unused ∷ pid to ∷ [])

-- REG_SEND has such a field too, and the name that the receiver is registered under
abbrev pub reg_send_term : Data → Pid → List ℕ → Data
reg_send_term unused from name = row REG_SEND (pid from ∷ unused ∷ atom name ∷ [])

-- the table. A process that is monitored by its registered name stands as this name, in place of its pid
abbrev pub control_term : Data → Signal → Data
control_term unused (Link from to) = row LINK (pid from ∷ pid to ∷ [])
control_term unused (Send to message) = send_term unused to
control_term unused (RegSend from name message) = reg_send_term unused from name
control_term unused (Exit from to reason) = row EXIT (pid from ∷ pid to ∷ reason ∷ [])
control_term unused (Exit2 from to reason) = row EXIT2 (pid from ∷ pid to ∷ reason ∷ [])
control_term unused (Monitor from to r) = row MONITOR_P (pid from ∷ pid to ∷ reference r ∷ [])
control_term unused (MonitorName from name r) = row MONITOR_P (pid from ∷ atom name ∷ reference r ∷ [])
control_term unused (Demonitor from to r) = row DEMONITOR_P (pid from ∷ pid to ∷ reference r ∷ [])
control_term unused (DemonitorName from name r) = row DEMONITOR_P (pid from ∷ atom name ∷ reference r ∷ [])
control_term unused (MonitorExit from to r reason) = row MONITOR_P_EXIT (pid from ∷ pid to ∷ reference r ∷ reason ∷ [])
control_term unused (MonitorNameExit name to r reason) = row MONITOR_P_EXIT (atom name ∷ pid to ∷ reference r ∷ reason ∷ [])
control_term unused (UnlinkId id from to) = row UNLINK_ID (int (pos id) ∷ pid from ∷ pid to ∷ [])
control_term unused (UnlinkIdAck id from to) = row UNLINK_ID_ACK (int (pos id) ∷ pid from ∷ pid to ∷ [])

-- the term behind the control term
abbrev pub message_of : Signal → Option Data
message_of (Send to message) = Some message
message_of (RegSend from name message) = Some message
message_of signal = None

-- ---- two spellings of exits, and of the exit of a monitor: the reason stands in the control term, or behind it (with payload)

abbrev pub control_in : Data → Signal → Bool → Data
control_in unused (Exit from to reason) true = row PAYLOAD_EXIT (pid from ∷ pid to ∷ [])
control_in unused (Exit2 from to reason) true = row PAYLOAD_EXIT2 (pid from ∷ pid to ∷ [])
control_in unused (MonitorExit from to r reason) true = row PAYLOAD_MONITOR_P_EXIT (pid from ∷ pid to ∷ reference r ∷ [])
control_in unused (MonitorNameExit name to r reason) true = row PAYLOAD_MONITOR_P_EXIT (atom name ∷ pid to ∷ reference r ∷ [])
control_in unused signal payload = control_term unused signal

abbrev pub message_in : Signal → Bool → Option Data
message_in (Exit from to reason) true = Some reason
message_in (Exit2 from to reason) true = Some reason
message_in (MonitorExit from to r reason) true = Some reason
message_in (MonitorNameExit name to r reason) true = Some reason
message_in signal payload = message_of signal

-- what it carries, the message or the reason, is P
abbrev pub Carries : (Data → Type 0) → Signal → Type 0
Carries P (Send to message) = P message
Carries P (RegSend from name message) = P message
Carries P (Exit from to reason) = P reason
Carries P (Exit2 from to reason) = P reason
Carries P (MonitorExit from to r reason) = P reason
Carries P (MonitorNameExit name to r reason) = P reason
Carries P signal = Unit {0}

-- the Id of UNLINK_ID and of its acknowledgement
abbrev pub IsUnlinkId : ℕ → Type 0
IsUnlinkId id = (1 ≤ id) × (id < 2 ^ 64)

abbrev pub HasId : Signal → Type 0
HasId (UnlinkId id from to) = IsUnlinkId id
HasId (UnlinkIdAck id from to) = IsUnlinkId id
HasId signal = Unit {0}

-- what can be carried, by the levels and the bytes of its canonical spelling
abbrev pub IsFit : Data → Type 0
IsFit t = (levels_of t ≤ MOST_PAYLOAD_LEVELS) × (length (canonical t) ≤ MOST_PAYLOAD_BYTES)

-- the same of a value of the profile
abbrev pub Fits : Data → Type 0
Fits t = IsWithin MOST_PAYLOAD_LEVELS MOST_PAYLOAD_BYTES t

-- which signals are sent
abbrev pub IsSendable : Signal → Type 0
IsSendable signal = HasId signal × Carries Fits signal
