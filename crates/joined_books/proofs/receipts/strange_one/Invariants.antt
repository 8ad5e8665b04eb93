use Rattle.std.proofs.Common.{length, take}
use Rattle.joined_books.specs.Marks.{AreMarked}
use Rattle.joined_books.specs.Receipts.{IsEnteredIn, position_of, receipts_of}
use Rattle.joined_books.proofs.receipts.strange_one.Given as goal

abbrev pub invariant-loop-seat : goal.invariant-loop-seat
invariant-loop-seat l = AreMarked position_of (IsEnteredIn l.entries) (length l.entries) l.marks.items
    (receipts_of l.node (take l.seat-index l.seats))
