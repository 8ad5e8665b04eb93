-- What stands at the front of the bytes that come to a node on a connection: a side that is up reads frames, any other
-- messages of the handshake, and a node without a side reads as the acceptor of an attempt.
-- (ERTS User's Guide, Distribution Protocol, Distribution Handshake and Protocol between Connected Nodes.)
use Rattle.std.specs.Prelude.{ℕ, false, Option, None, Some, List, Ok, Err}
use Rattle.conn_core.specs.declared.arrival.Fault.{Fault}
use Rattle.dist_model.specs.Items.{Item, Signalled, Handshake, Tick}
use Rattle.dist_model.specs.Sides as state
use Rattle.dist_model.specs.Sides.{State, TrunkSide}
use Rattle.erl_control.specs.Answer.{IsFrameDue}
use Rattle.erl_control.specs.Numbers.{error_of}
use Rattle.erl_control.specs.declared.signal.Item.TheVariants as frame
use Rattle.erl_handshake.specs.Answer.{IsShakeDue}
use Rattle.erl_handshake.specs.declared.fault.ShakeFault.{ShakeFault}
use Rattle.erl_handshake.specs.declared.message.Role.{Role}
use Rattle.erl_handshake.specs.declared.message.Role.TheVariants as role
use Rattle.erl_term.specs.declared.refusal.Refusal.{Refusal}

pub data Front : Type 0 where
  -- nothing whole yet
  Begins : Front
  -- an item, of so many bytes
  Holds : Item → (len : ℕ) → Front
  -- what is no item, by the number that breaks the side
  Spoils : Fault → Front

-- how many bytes are taken
abbrev pub len_of : Front → ℕ
len_of Begins = 0
len_of (Holds item len) = len
len_of (Spoils why) = 0

abbrev pub IsMessageFront : Role → List ℕ → Front → Type 0
IsMessageFront reader bytes Begins = IsShakeDue reader bytes (Ok None)
IsMessageFront reader bytes (Holds (Handshake message) len) = IsShakeDue reader bytes (Ok (Some (message, len)))
IsMessageFront reader bytes (Spoils (Fault.Shake ShakeFault.BadMessage)) = IsShakeDue reader bytes (Err Refusal.BadMessage)
IsMessageFront reader bytes _ = ⊥

-- A signal stands here as `Signalled signal false`, in whichever spelling it came: the node does the same with both.
abbrev pub IsFrameFront : List ℕ → Front → Type 0
IsFrameFront bytes Begins = IsFrameDue bytes (Ok None)
IsFrameFront bytes (Holds (Signalled signal false) len) = IsFrameDue bytes (Ok (Some (frame.Signal signal, len)))
IsFrameFront bytes (Holds Tick len) = IsFrameDue bytes (Ok (Some (frame.Tick, len)))
IsFrameFront bytes (Spoils (Fault.Frame why)) = IsFrameDue bytes (Err (error_of why))
IsFrameFront bytes _ = ⊥

-- a side that is lost or gone reads nothing any more
abbrev pub IsFrontIn : State → List ℕ → Front → Type 0
IsFrontIn (state.AwaitsStatus word) bytes front = IsMessageFront role.Dialer bytes front
IsFrontIn (state.AwaitsChallenge word) bytes front = IsMessageFront role.Dialer bytes front
IsFrontIn (state.AwaitsAck word) bytes front = IsMessageFront role.Dialer bytes front
IsFrontIn (state.Asked word) bytes front = IsMessageFront role.Acceptor bytes front
IsFrontIn (state.Parked word) bytes front = IsMessageFront role.Acceptor bytes front
IsFrontIn (state.Accepting word) bytes front = IsMessageFront role.Acceptor bytes front
IsFrontIn state.Up bytes front = IsFrameFront bytes front
IsFrontIn state.Losing bytes front = Unit {0}
IsFrontIn state.Gone bytes front = Unit {0}

abbrev pub IsFront : Option TrunkSide → List ℕ → Front → Type 0
IsFront None bytes front = IsMessageFront role.Acceptor bytes front
IsFront (Some side) bytes front = IsFrontIn side.state bytes front

-- ---- whether the front is known: an item is whole, or what stands there is none, or nothing is read any more. More bytes
-- change nothing of it

abbrev pub IsWholeIn : State → List ℕ → Type 0
IsWholeIn state.Losing bytes = Unit {0}
IsWholeIn state.Gone bytes = Unit {0}
IsWholeIn st bytes = ¬ IsFrontIn st bytes Begins

abbrev pub IsWhole : Option TrunkSide → List ℕ → Type 0
IsWhole None bytes = ¬ IsFront None bytes Begins
IsWhole (Some side) bytes = IsWholeIn side.state bytes
