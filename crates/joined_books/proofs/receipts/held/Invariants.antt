use Rattle.std.proofs.Common.{◌≡◌, length, take}
use Rattle.joined_books.specs.Receipts.{receipts_of}
use Rattle.joined_books.proofs.receipts.held.Given as goal

abbrev pub invariant-loop-seat : goal.invariant-loop-seat
invariant-loop-seat l = l.found ≡ length (receipts_of l.node (take l.seat-index l.seats))
