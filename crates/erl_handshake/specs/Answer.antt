-- The answer that is due to bytes of which a message stands, or begins, at the front.
-- (ERTS User's Guide, Distribution Protocol, Distribution Handshake.)
use Rattle.std.specs.Prelude.{◌≡◌, ℕ, ◌+◌, ◌<◌, ◌^◌, ◌⊎◌, List, ◌++◌, length, take, Option, Some, None, Result, Ok, Err}
use Rattle.std.specs.Int.{from_be_bytes, w16}
use Rattle.readers.specs.Places.{IsAtFront}
use Rattle.erl_term.specs.declared.refusal.Refusal.{Refusal}
use Rattle.erl_term.specs.declared.refusal.Refusal.TheVariants.{BadMessage}
use Rattle.erl_handshake.specs.declared.message.Role.{Role}
use Rattle.erl_handshake.specs.declared.message.ShakeMsg.{ShakeMsg}
use Rattle.erl_handshake.specs.Messages.{counted, IsBody, IsShake}

-- more bytes are needed: for the length, or for what it counts
abbrev pub IsBegun : List ℕ → Type 0
IsBegun bytes = (length bytes < 2) ⊎ (length bytes < 2 + from_be_bytes w16 (take 2 bytes))

-- the length at the front is followed by this body
pub record HasBody (bytes body : List ℕ) : Type 0 where
  pub rest : List ℕ
  pub short : length body < 2 ^ 16
  pub parts : bytes ≡ counted body ++ rest

-- a message is whole, and is none of the table for this reader
abbrev pub IsNone : Role → List ℕ → Type 0
IsNone role bytes = (body : List ℕ) × HasBody bytes body × ((message : ShakeMsg) → ¬ IsBody role message body)

-- want of memory is never due
abbrev pub IsShakeDue : Role → List ℕ → Result (Option (ShakeMsg × ℕ)) Refusal → Type 0
IsShakeDue role bytes (Ok None) = IsBegun bytes
IsShakeDue role bytes (Ok (Some x)) = IsAtFront (IsShake role) bytes x.0 x.1
IsShakeDue role bytes (Err e) = (e ≡ BadMessage) × IsNone role bytes
