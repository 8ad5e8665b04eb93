-- What bytes that arrive at a side come to.
-- (ERTS User's Guide, Distribution Protocol, Distribution Handshake and Protocol between Connected
-- Nodes.)
use Rattle.std.specs.Prelude.{◌≡◌, ◌⊎◌, ℕ, List, Option, Some, None, Ok, Err}
use Rattle.erl_term.specs.declared.refusal.Refusal.TheVariants.{BadMessage}
use Rattle.erl_control.specs.declared.signal.Item.{Item}
use Rattle.erl_control.specs.declared.signal.Signal.{Signal as TheSignal}
use Rattle.erl_control.specs.declared.signal.Item.TheVariants.{Signal}
use Rattle.erl_control.specs.declared.error.FrameFault.{FrameFault}
use Rattle.erl_control.specs.Numbers.{error_of}
use Rattle.erl_control.specs.Answer.{IsFrameDue}
use Rattle.erl_handshake.specs.declared.message.Role.{Role}
use Rattle.erl_handshake.specs.declared.message.Role.TheVariants as role
use Rattle.erl_handshake.specs.declared.message.ShakeMsg.{ShakeMsg}
use Rattle.erl_handshake.specs.declared.identity.Identity.{Identity}
use Rattle.erl_handshake.specs.Answer.{IsShakeDue}
use Rattle.conn_core.specs.declared.standing.Standing.{Standing}
use Rattle.conn_core.specs.declared.standing.Standing.TheVariants.{Dialing, Accepting, Up, Losing, Gone}
use Rattle.conn_core.specs.declared.side.Side.{Side}
use Rattle.conn_core.specs.declared.arrival.Arrival.{Arrival}
use Rattle.conn_core.specs.Side.{on_message, on_no_message, on_item, on_no_frame}

-- a message for this reader stands at the front, or a whole one that is none, or more bytes are needed
abbrev pub MessageDue : Role → Identity → Side → List ℕ → (word : ℕ) → Option Arrival → Type 0
MessageDue reader own side bytes word None = IsShakeDue reader bytes (Ok None)
MessageDue reader own side bytes word (Some arrival) =
    ((message : ShakeMsg) × (len : ℕ) × IsShakeDue reader bytes (Ok (Some (message, len)))
    × (arrival ≡ on_message own side.peer side.standing message word len))
    ⊎ (IsShakeDue reader bytes (Err BadMessage) × (arrival ≡ on_no_message side.standing))

-- a frame stands at the front, or one that can't be read, or more bytes are needed
abbrev pub FrameDue : Standing → List ℕ → Option Arrival → Type 0
FrameDue standing bytes None = IsFrameDue bytes (Ok None)
FrameDue standing bytes (Some arrival) =
    ((item : Item) × (len : ℕ) × IsFrameDue bytes (Ok (Some (item, len))) × (arrival ≡ on_item standing item len))
    ⊎ ((why : FrameFault) × IsFrameDue bytes (Err (error_of why)) × (arrival ≡ on_no_frame standing why))

abbrev pub DueAt : Standing → Identity → Side → List ℕ → (word : ℕ) → Option Arrival → Type 0
DueAt (Dialing d) own side bytes word due = MessageDue role.Dialer own side bytes word due
DueAt (Accepting a) own side bytes word due = MessageDue role.Acceptor own side bytes word due
DueAt (Up introduction) own side bytes word due = FrameDue (Up introduction) bytes due
DueAt (Losing introduction) own side bytes word due = ⊥
DueAt Gone own side bytes word due = ⊥

-- what the bytes come to, or none where more are needed
abbrev pub ArrivalDue : Identity → Side → List ℕ → (word : ℕ) → Option Arrival → Type 0
ArrivalDue own side bytes word due = DueAt side.standing own side bytes word due

-- ---- what takes memory: a message, and the signal of a frame

abbrev pub MessageTakesMemory : Role → List ℕ → Type 0
MessageTakesMemory reader bytes = (message : ShakeMsg) × (len : ℕ) × IsShakeDue reader bytes (Ok (Some (message, len)))

abbrev pub FrameTakesMemory : List ℕ → Type 0
FrameTakesMemory bytes = (signal : TheSignal) × (len : ℕ) × IsFrameDue bytes (Ok (Some (Signal signal, len)))

abbrev pub TakesMemory : Standing → List ℕ → Type 0
TakesMemory (Dialing d) bytes = MessageTakesMemory role.Dialer bytes
TakesMemory (Accepting a) bytes = MessageTakesMemory role.Acceptor bytes
TakesMemory (Up introduction) bytes = FrameTakesMemory bytes
TakesMemory (Losing introduction) bytes = ⊥
TakesMemory Gone bytes = ⊥
