-- Receipts that are the acts of the books, each once.
use Rattle.std.specs.Prelude.{◌≡◌, ◌≢◌, ℕ, ◌<◌, Bool, false, List, [], ◌∷◌, ◌++◌, All, ◌==◌}
use Rattle.std.specs.Prelude.{count_by, length, map, slice_get, slice_index_or, if◌then◌else◌}
use Rattle.joined_books.specs.Marks.{AreMarked, IsStrange, how_many}
use Rattle.joined_books.specs.Parts.{entries_at}
use Rattle.node_lock.specs.Seen.{BookSeen}
use Rattle.node_history.specs.Acts.{is_act}
use Rattle.node_history.specs.declared.entry.Entry.{Entry}
use Rattle.node_lock.specs.Seats.{IsEnteredAs}
use Rattle.node_lock.specs.declared.seat.Asked.{Asked}
use Rattle.node_lock.specs.declared.seat.Seat.{Seat}

-- the receipts of a node's seats
abbrev pub own_receipts : ℕ → Seat → List Asked
own_receipts node seat = if seat.node == node then seat.receipts.items else []

abbrev pub receipts_of : ℕ → List Seat → List Asked
receipts_of node [] = []
receipts_of node (seat ∷ seats) = own_receipts node seat ++ receipts_of node seats

abbrev pub position_of : Asked → ℕ
position_of asked = asked.receipt.position

-- a receipt stands at its place among these entries
abbrev pub IsEnteredIn : List Entry → Asked → Type 0
IsEnteredIn entries asked = IsEnteredAs asked (slice_get entries asked.receipt.position)

-- which entries are acts
abbrev pub acts_of : List Entry → List Bool
acts_of entries = map (λ entry. is_act entry.event) entries

-- they stand, and each act is of one of them, and nothing else is
pub record HasReceipts (entries : List Entry) (receipts : List Asked) : Type 0 where
  pub stand : All (IsEnteredIn entries) receipts
  pub once : (position : ℕ) → how_many position_of position receipts ≡ (if slice_index_or (acts_of entries) position false then 1 else 0)

abbrev pub AreReceipts : List BookSeen → List Seat → Type 0
AreReceipts books seats = (node : ℕ) → HasReceipts (entries_at books node) (receipts_of node seats)

-- the receipts of this node stand, each at another position
abbrev pub AreEnteredApart : List BookSeen → List Seat → ℕ → Type 0
AreEnteredApart books seats node =
    (marks : List Bool) × AreMarked position_of (IsEnteredIn (entries_at books node)) (length (entries_at books node)) marks
    (receipts_of node seats)

abbrev pub AllEntered : List BookSeen → List Seat → Type 0
AllEntered books seats = (node : ℕ) → AreEnteredApart books seats node

-- a receipt of this node doesn't stand at this position, or isn't alone there
abbrev pub IsStrangeReceipt : List BookSeen → List Seat → (node position : ℕ) → Type 0
IsStrangeReceipt books seats node position =
    IsStrange position_of (IsEnteredIn (entries_at books node)) (receipts_of node seats) position

-- there aren't as many receipts of this node as it has acts
abbrev pub IsShort : List Entry → List Asked → Type 0
IsShort entries receipts = length receipts ≢ count_by (λ entry. is_act entry.event) entries

abbrev pub IsMissing : List BookSeen → List Seat → ℕ → Type 0
IsMissing books seats node = (node < length books) × IsShort (entries_at books node) (receipts_of node seats)
