use Rattle.std.proofs.Common.{◌≡◌, ◌++◌, List, length, take}
use Rattle.joined_books.specs.Marks.{AreMarked}
use Rattle.joined_books.specs.Receipts.{IsEnteredIn, position_of}
use Rattle.node_lock.specs.declared.seat.Asked.{Asked}
use Rattle.joined_books.proofs.receipts.mark_all.Given as goal

abbrev pub invariant-loop-asked : goal.invariant-loop-asked
invariant-loop-asked l = (length l.marks.items ≡ length l.initial.marks.items)
    × ((before : List Asked) → AreMarked position_of (IsEnteredIn l.entries) (length l.entries) l.initial.marks.items before
    → AreMarked position_of (IsEnteredIn l.entries) (length l.entries) l.marks.items (before ++ take l.asked-index l.receipts))
