-- The additions of a call to a book and to a seat.
use Rattle.std.specs.Prelude.{◌≡◌, ◌⊎◌, ◌<◌, ℕ, Option, None, Some, List, [], ◌∷◌, ◌++◌, length, slice_get}
use Rattle.erl_term.specs.declared.refusal.Refusal.{Refusal}
use Rattle.node_lock.specs.Books.{Applies, IsSameNode, IsUnapplied}
use Rattle.node_lock.specs.Seen.{BookSeen}
use Rattle.node_history.specs.Entering.{Stays}
use Rattle.node_history.specs.declared.entry.Entry.{Entry}
use Rattle.node_lock.specs.Acts.{event_of}
use Rattle.node_lock.specs.Seats.{IsBehind, IsEnteredAs, LastIsEntered, last_of}
use Rattle.node_lock.specs.declared.act.Act.{Act}
use Rattle.node_lock.specs.declared.seat.Asked.{Asked}
use Rattle.node_lock.specs.declared.seat.Seat.{Seat}

abbrev pub stamp_in : Option Entry → ℕ
stamp_in None = 0
stamp_in (Some entry) = entry.stamp

abbrev pub stamp_at : List Entry → ℕ → ℕ
stamp_at entries place = stamp_in (slice_get entries place)

-- the book is of the seat's node, and the seat's last receipt stands in it
abbrev pub IsAtHome : BookSeen → Seat → Type 0
IsAtHome book seat = (seat.node ≡ book.place) × LastIsEntered (last_of seat.receipts.items) book.history.entries.items

pub record AddsReceipt (old new : Seat) (asked : Asked) : Type 0 where
  pub node : new.node ≡ old.node
  pub receipts : new.receipts.items ≡ old.receipts.items ++ asked ∷ []
  pub above : new.above ≡ old.above

pub record IsSameSeat (old new : Seat) : Type 0 where
  pub node : new.node ≡ old.node
  pub receipts : new.receipts.items ≡ old.receipts.items
  pub above : new.above ≡ old.above

-- the refusals of a call itself. Whatever the node refuses is the answer of a receipt
abbrev pub IsCallRefusal : Refusal → Type 0
IsCallRefusal e = (e ≡ Refusal.StrangeSeat) ⊎ ((e ≡ Refusal.IdsUsedUp) ⊎ (e ≡ Refusal.OutOfMemory))

-- The seat has one receipt more, at the returned index: of this act at its node, behind the last one in place and
-- stamp, and behind the stamp that the seat follows.
pub record Asks (act : Act) (seat after : Seat) (place : ℕ) : Type 0 where
  pub asked : Asked
  pub event : asked.event ≡ event_of act
  pub node : asked.receipt.node ≡ seat.node
  pub behind : IsBehind (last_of seat.receipts.items) asked
  pub above : seat.above < asked.receipt.stamp
  pub adds : AddsReceipt seat after asked
  pub place_is : place ≡ length seat.receipts.items

-- the book applies the act, and the receipt stands at its entry
pub record Calls (act : Act) (book next : BookSeen) (seat after : Seat) (place : ℕ) : Type 0 where
  pub home : IsAtHome book seat
  pub asks : Asks act seat after place
  pub applies : Applies (event_of act) seat.above book next asks.asked.receipt.position
  pub stamp : asks.asked.receipt.stamp ≡ next.history.last
  pub stands : IsEnteredAs asks.asked (slice_get next.history.entries.items asks.asked.receipt.position)

pub record IsUncalled (act : Act) (book next : BookSeen) (seat after : Seat) (e : Refusal) : Type 0 where
  pub stays : IsSameSeat seat after
  pub same : IsSameNode book next
  pub history : Stays book.history next.history
  pub outlets : next.outlets ≡ book.outlets
  pub why : ((e ≡ Refusal.StrangeSeat) × (IsAtHome book seat → ⊥))
      ⊎ (IsAtHome book seat × IsUnapplied (event_of act) seat.above book next e)
