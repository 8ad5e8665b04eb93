-- What a contract sees of a node's end of a connection: towards whom it is, what it has put on its wire and what waits before that,
-- what it has taken off the other wire, and what of that hasn't come to the node yet.
use Rattle.std.specs.Prelude.{◌≡◌, ℕ, ◌+◌, Option, None, Some, List, [], ◌∷◌, ◌++◌, drop, length, nat_lt, take, if◌then◌else◌}
use Rattle.erl_names.specs.declared.trunk.TrunkId.{TrunkId}
use Rattle.wire_core.specs.Pieces.{PieceSeen, piece_of}
use Rattle.wire_core.specs.declared.parcel.Parcel.{Parcel}

pub record PortSeen : Type 0 where
  pub trunk : TrunkId
  pub peer : List ℕ
  pub put : List Parcel
  pub outbox : List Parcel
  pub taken : List Parcel
  pub slot : List Parcel
  -- all pieces that were put, and how many bytes of the first of the outbox they have
  pub pieces : List PieceSeen
  pub begun : ℕ
  -- the bytes that were taken and are no whole item yet
  pub gathered : List ℕ
  -- the most bytes of a piece that is put from now on
  pub greatest : ℕ

-- nothing went through it yet
abbrev pub fresh : TrunkId → List ℕ → PortSeen
fresh trunk peer =
    record {
      trunk = trunk;
      peer = peer;
      put = [];
      outbox = [];
      taken = [];
      slot = [];
      pieces = [];
      begun = 0;
      gathered = [];
      greatest = 512;
    }

-- a parcel more waits, behind the others
abbrev pub sending : PortSeen → Parcel → PortSeen
sending port parcel = record port { outbox = port.outbox ++ parcel ∷ [] }

abbrev pub with_slot : PortSeen → List Parcel → PortSeen
with_slot port slot = record port { slot = slot }

abbrev pub with_greatest : PortSeen → ℕ → PortSeen
with_greatest port greatest = record port { greatest = greatest }

-- the next of the bytes of the first that waits, as many as a piece may have
abbrev pub next_piece : PortSeen → (first : Parcel) → PieceSeen
next_piece port first = piece_of first.stamp (take port.greatest (drop port.begun first.bytes))

-- the next piece is put, and with its last the parcel
abbrev pub flushed : PortSeen → List Parcel → PortSeen
flushed port [] = port
flushed port (first ∷ rest) =
    if nat_lt (port.begun + port.greatest) (length first.bytes)
    then record port { pieces = port.pieces ++ next_piece port first ∷ []; begun = port.begun + port.greatest }
    else record port { pieces = port.pieces ++ next_piece port first ∷ []; begun = 0; put = port.put ++ first ∷ []; outbox = rest }

-- a parcel was taken, and comes next
abbrev pub fetched : PortSeen → Parcel → PortSeen
fetched port parcel = record port { taken = port.taken ++ parcel ∷ []; slot = port.slot ++ parcel ∷ []; gathered = [] }

abbrev pub with_gathered : PortSeen → List ℕ → PortSeen
with_gathered port gathered = record port { gathered = gathered }

abbrev pub first_of : List Parcel → Option Parcel
first_of [] = None
first_of (parcel ∷ rest) = Some parcel

abbrev pub behind_first : List Parcel → List Parcel
behind_first [] = []
behind_first (parcel ∷ rest) = rest

-- the last that were put fill a wire
abbrev pub EndsFull : List PieceSeen → Type 0
EndsFull pieces = (taken held : List PieceSeen) × (pieces ≡ taken ++ held) × (length held ≡ 64)
