-- The items that a side takes of a stream of bytes from the peer, each from the front of the bytes left.
-- (ERTS User's Guide, Distribution Protocol, Distribution Handshake and Protocol between Connected Nodes.)
use Rattle.std.specs.Prelude.{◌≡◌, ◌⊎◌, ℕ, ◌<◌, false, List, [], ◌∷◌, ◌++◌, All, Option, Some, None, drop}
use Rattle.erl_handshake.specs.declared.identity.Identity.{Identity}
use Rattle.conn_core.specs.declared.side.Side.{Side}
use Rattle.conn_core.specs.declared.arrival.Arrival.{Arrival}
use Rattle.conn_core.specs.Side.{listens, state_of}
use Rattle.conn_core.specs.Arrivals.{ArrivalDue}

-- the bytes behind an item
abbrev pub behind : Option Arrival → List ℕ → List ℕ
behind None bytes = bytes
behind (Some arrival) bytes = drop arrival.len bytes

-- the side after an item
abbrev pub standing_as : Option Arrival → Side → Side
standing_as None side = side
standing_as (Some arrival) side = record side { standing = arrival.standing }

-- an item, and the side at that time, after any changes
pub record Taking : Type 0 where
  pub side : Side
  pub word : ℕ
  pub arrival : Arrival

-- the side takes these items of the stream, and leaves the rest
abbrev pub Takes : Identity → (stream : List ℕ) → List Taking → (rest : List ℕ) → Type 0
Takes own stream [] rest = rest ≡ stream
Takes own stream (taking ∷ more) rest =
    ArrivalDue own taking.side stream taking.word (Some taking.arrival) × Takes own (drop taking.arrival.len stream) more rest

-- each is a whole message or frame, and no fault
abbrev pub AreWhole : List Taking → Type 0
AreWhole takings = All (λ taking. 0 < taking.arrival.len) takings

-- ---- every whole item, under one word, with no other change of the side

-- the items are due one after the other, and lead to this side and these bytes left
abbrev pub Gives : Identity → (word : ℕ) → Side → (bytes : List ℕ) → List Arrival → (end : Side) → (rest : List ℕ) → Type 0
Gives own word side bytes [] end rest = (end ≡ side) × (rest ≡ bytes)
Gives own word side bytes (arrival ∷ more) end rest = ArrivalDue own side bytes word (Some arrival)
    × Gives own word (standing_as (Some arrival) side) (behind (Some arrival) bytes) more end rest

-- the side needs more bytes, or takes nothing more
abbrev pub IsAtRest : Identity → (word : ℕ) → Side → (bytes : List ℕ) → Type 0
IsAtRest own word side bytes = ArrivalDue own side bytes word None ⊎ (listens (state_of side.standing) ≡ false)

abbrev pub GivesAll : Identity → (word : ℕ) → Side → (bytes : List ℕ) → List Arrival → (end : Side) → (rest : List ℕ) → Type 0
GivesAll own word side bytes arrivals end rest = Gives own word side bytes arrivals end rest × IsAtRest own word end rest

-- the same before the first piece, between any two and behind the last
abbrev pub GivesInPieces : Identity → (word : ℕ) → Side → (kept : List ℕ) → (pieces : List (List ℕ)) → List Arrival → (end : Side) → (rest : List ℕ) → Type 0
GivesInPieces own word side kept [] arrivals end rest = GivesAll own word side kept arrivals end rest
GivesInPieces own word side kept (piece ∷ pieces) arrivals end rest =
    (first : List Arrival) × (later : List Arrival) × (between : Side) × (left : List ℕ) × GivesAll own word side kept first between left
    × GivesInPieces own word between (left ++ piece) pieces later end rest × (arrivals ≡ first ++ later)
