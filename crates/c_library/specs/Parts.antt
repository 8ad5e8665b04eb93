-- The parts of a signal, and where each stands in the bytes of its frame.
-- (ERTS User's Guide, Distribution Protocol, Protocol between Connected Nodes and New Link Protocol.)
use Rattle.std.specs.Prelude.{◌≡◌, ℕ, ◌+◌, ◌≤◌, List, Option, Some, None, length, take, drop}
use Rattle.erl_term.specs.Data.{Data, atom, pid, reference}
use Rattle.erl_term.specs.Spelling.{Spells}
use Rattle.erl_control.specs.declared.signal.Signal.{Signal}
use Rattle.erl_control.specs.declared.signal.Signal.TheVariants.{Link, Send, RegSend, Exit, Exit2, Monitor, Demonitor}
use Rattle.erl_control.specs.declared.signal.Signal.TheVariants.{MonitorExit, UnlinkId, UnlinkIdAck}
use Rattle.erl_control.specs.declared.signal.Signal.TheVariants.{MonitorName, DemonitorName, MonitorNameExit}
use Rattle.c_library.specs.declared.parts.ErldistPlace.{ErldistPlace}
use Rattle.c_library.specs.declared.parts.Parts.{Parts}

-- the bytes at a place
abbrev pub bytes_at : ErldistPlace → List ℕ → List ℕ
bytes_at place bytes = take place.length (drop place.offset bytes)

-- one of the spellings of the term stands there, without a version byte
pub record Stands (bytes : List ℕ) (t : Data) (place : ErldistPlace) : Type 0 where
  pub levels : ℕ
  pub within : place.offset + place.length ≤ length bytes
  pub spelled : Spells levels t (bytes_at place bytes)

abbrev pub no_place : ErldistPlace
no_place = record { offset = 0; length = 0 }

-- a part that the signal has not has no place
abbrev pub IsPart : List ℕ → Option Data → ErldistPlace → Type 0
IsPart bytes None place = place ≡ no_place
IsPart bytes (Some t) place = Stands bytes t place

-- ---- the parts of each signal

-- the sender, or the name of a process that was monitored by its name
abbrev pub from_in : Signal → Option Data
from_in (Link from to) = Some (pid from)
from_in (Send to message) = None
from_in (RegSend from name message) = Some (pid from)
from_in (Exit from to reason) = Some (pid from)
from_in (Exit2 from to reason) = Some (pid from)
from_in (Monitor from to r) = Some (pid from)
from_in (MonitorName from name r) = Some (pid from)
from_in (Demonitor from to r) = Some (pid from)
from_in (DemonitorName from name r) = Some (pid from)
from_in (MonitorExit from to r reason) = Some (pid from)
from_in (MonitorNameExit name to r reason) = Some (atom name)
from_in (UnlinkId id from to) = Some (pid from)
from_in (UnlinkIdAck id from to) = Some (pid from)

-- the receiver, or its registered name
abbrev pub to_in : Signal → Option Data
to_in (Link from to) = Some (pid to)
to_in (Send to message) = Some (pid to)
to_in (RegSend from name message) = Some (atom name)
to_in (Exit from to reason) = Some (pid to)
to_in (Exit2 from to reason) = Some (pid to)
to_in (Monitor from to r) = Some (pid to)
to_in (MonitorName from name r) = Some (atom name)
to_in (Demonitor from to r) = Some (pid to)
to_in (DemonitorName from name r) = Some (atom name)
to_in (MonitorExit from to r reason) = Some (pid to)
to_in (MonitorNameExit name to r reason) = Some (pid to)
to_in (UnlinkId id from to) = Some (pid to)
to_in (UnlinkIdAck id from to) = Some (pid to)

abbrev pub reference_in : Signal → Option Data
reference_in (Monitor from to r) = Some (reference r)
reference_in (MonitorName from name r) = Some (reference r)
reference_in (Demonitor from to r) = Some (reference r)
reference_in (DemonitorName from name r) = Some (reference r)
reference_in (MonitorExit from to r reason) = Some (reference r)
reference_in (MonitorNameExit name to r reason) = Some (reference r)
reference_in signal = None

-- the message or the reason
abbrev pub payload_in : Signal → Option Data
payload_in (Send to message) = Some message
payload_in (RegSend from name message) = Some message
payload_in (Exit from to reason) = Some reason
payload_in (Exit2 from to reason) = Some reason
payload_in (MonitorExit from to r reason) = Some reason
payload_in (MonitorNameExit name to r reason) = Some reason
payload_in signal = None

-- the Id of UNLINK_ID and of its acknowledgement, else 0
abbrev pub id_in : Signal → ℕ
id_in (UnlinkId id from to) = id
id_in (UnlinkIdAck id from to) = id
id_in signal = 0

-- each part of the signal stands at its place
pub record ArePlaces (bytes : List ℕ) (signal : Signal) (parts : Parts) : Type 0 where
  pub from : IsPart bytes (from_in signal) parts.from
  pub to : IsPart bytes (to_in signal) parts.to
  pub reference : IsPart bytes (reference_in signal) parts.reference
  pub payload : IsPart bytes (payload_in signal) parts.payload
