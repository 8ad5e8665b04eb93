-- The place of the first fault in a term, a frame or a message of the handshake.
-- (ERTS User's Guide, External Term Format; Distribution Protocol, Distribution Handshake and Protocol between Connected Nodes.)
use Rattle.std.specs.Prelude.{◌≡◌, ◌<◌, ◌≤◌, ◌+◌, ℕ, suc, List, [], ◌∷◌, length, take, drop, Err, nat_lt, if◌then◌else◌}
use Rattle.byteorder.specs.Endian.{big_number}
use Rattle.readers.specs.Places.{Begins}
use Rattle.erl_term.specs.declared.error.TermError.TheVariants.{Cut}
use Rattle.erl_term.specs.Answer.{IsDue}
use Rattle.erl_term.specs.Spelling.{IsNumber}
use Rattle.erl_control.specs.declared.signal.Item.{Item}
use Rattle.erl_control.specs.declared.signal.Item.TheVariants.{Tick, Signal}
use Rattle.erl_control.specs.Frame.{IsSignalText, limit}
use Rattle.erl_handshake.specs.Messages.{IsBody}
use Rattle.fault_places.specs.declared.places.Reader.{Reader}
use Rattle.fault_places.specs.declared.places.Reader.TheVariants.{Term, Frame, Message}

-- the length of a frame: four bytes, and at most the limit
abbrev pub IsLength : ℕ → List ℕ → Type 0
IsLength n b = IsNumber 4 n b × (n ≤ limit)

-- behind it: nothing, of a tick, or pass-through and the text of a signal in any of its spellings
abbrev pub IsFrameBody : Item → List ℕ → Type 0
IsFrameBody Tick b = b ≡ []
IsFrameBody (Signal signal) b = (text : List ℕ) × (b ≡ 112 ∷ text) × IsSignalText signal text

-- a term, a frame or a message begins with the bytes, or, of a term, is inside of them. The number of bytes that a length counts is
-- not compared with those that follow it
abbrev pub Goes : Reader → List ℕ → Type 0
Goes Term bytes = IsDue bytes (Err Cut)
Goes Frame bytes = Begins IsLength (take 4 bytes) × Begins IsFrameBody (drop 4 bytes)
Goes (Message role) bytes = Begins (IsBody role) (drop 2 bytes)

abbrev pub least : ℕ → ℕ → ℕ
least n m = if nat_lt m n then m else n

-- the number of bytes of the item at the front, by its length where it has one, or all that are there
abbrev pub own_len : Reader → List ℕ → ℕ
own_len Term bytes = length bytes
own_len Frame bytes = least (4 + big_number 4 bytes) (length bytes)
own_len (Message role) bytes = least (2 + big_number 2 bytes) (length bytes)

-- so many of the item's bytes begin one, and one more doesn't. All of them begin one where only the end of the item is wrong, or
-- its message or reason doesn't fit
pub record IsPlace (reader : Reader) (bytes : List ℕ) (n : ℕ) : Type 0 where
  pub inside : n ≤ own_len reader bytes
  pub goes : 0 < n → Goes reader (take n bytes)
  pub stops : n < own_len reader bytes → ¬ Goes reader (take (suc n) bytes)
