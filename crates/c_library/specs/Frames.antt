-- The head of a frame as numbers and places.
-- (ERTS User's Guide, Distribution Protocol, Protocol between Connected Nodes.)
use Rattle.std.specs.Prelude.{◌≡◌, ℕ, List, ◌++◌, Option, Some, None, Result, Ok, Err, length, take, drop}
use Rattle.erl_term.specs.declared.parts.TupleHead.{TupleHead}
use Rattle.erl_control.specs.declared.error.FrameError.{FrameError}
use Rattle.erl_control.specs.declared.signal.Signal.{Signal as TheSignal}
use Rattle.erl_control.specs.declared.signal.Item.{Item}
use Rattle.erl_control.specs.declared.signal.Item.TheVariants.{Tick, Signal}
use Rattle.erl_control.specs.Numbers.{frame_error_number}
use Rattle.erl_control.specs.Reading.{IsRowHead}
use Rattle.c_library.specs.declared.frames.ErldistFrame.{ErldistFrame}
use Rattle.c_library.specs.declared.parts.Parts.{Parts}
use Rattle.c_library.specs.Parts.{ArePlaces, IsPart, no_place, from_in, to_in, reference_in, payload_in, id_in}

-- the control term in the frame begins with this operation
pub record HasOperation (bytes : List ℕ) (operation : ℕ) : Type 0 where
  pub head : TupleHead
  pub front : List ℕ
  pub rest : List ℕ
  pub is_front : IsRowHead (head, operation) front
  -- behind the length and the byte 112
  pub parts : drop 5 bytes ≡ front ++ rest

-- the head of a signal's frame, of which these are the bytes
pub record IsSignalHead (bytes : List ℕ) (signal : TheSignal) (frame : ErldistFrame) : Type 0 where
  pub operation : HasOperation bytes frame.operation
  pub id : frame.id ≡ id_in signal
  pub from : IsPart bytes (from_in signal) frame.from
  pub to : IsPart bytes (to_in signal) frame.to
  pub reference : IsPart bytes (reference_in signal) frame.reference
  pub payload : IsPart bytes (payload_in signal) frame.payload

-- nothing but a length
abbrev pub of_length : ℕ → ErldistFrame
of_length n = record {
  length = n;
  id = 0;
  from = no_place;
  to = no_place;
  reference = no_place;
  payload = no_place;
  operation = 0;
}

-- the head of an item's frame, of which these are the bytes
abbrev pub IsItemHead : List ℕ → Item → ErldistFrame → Type 0
IsItemHead bytes Tick frame = frame ≡ of_length (length bytes)
IsItemHead bytes (Signal s) frame = (frame.length ≡ length bytes) × IsSignalHead bytes s frame

-- an answer as the number of its fault or 0, and a head
abbrev pub IsHead : List ℕ → Result (Option (Item × ℕ)) FrameError → ℕ × ErldistFrame → Type 0
IsHead bytes (Ok None) head = head ≡ (0, of_length 0)
IsHead bytes (Ok (Some x)) head = (head.0 ≡ 0) × IsItemHead (take x.1 bytes) x.0 head.1
IsHead bytes (Err e) head = head ≡ (frame_error_number e, of_length 0)

-- the operation is read, and each part of the signal has its place
abbrev pub IfSomeRow : List ℕ → TheSignal → Option (ℕ × Parts) → Type 0
IfSomeRow bytes signal None = ⊥
IfSomeRow bytes signal (Some x) = HasOperation bytes x.0 × ArePlaces bytes signal x.1
