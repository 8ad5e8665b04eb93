use Rattle.std.proofs.Common.{◌≡◌, ◌≤◌, [], length}
use Rattle.std.specs.List.{AllWithin}
use Rattle.joined_books.proofs.receipts.check_seats.Given as goal

abbrev pub invariant-loop-seat : goal.invariant-loop-seat
invariant-loop-seat l = AllWithin (λ seat. length l.books ≤ seat.node → seat.receipts.items ≡ []) l.seats 0 l.seat-index
