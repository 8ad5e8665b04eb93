use Rattle.std.specs.List.{AllWithin}
use Rattle.joined_books.specs.Wires.{IsWholeAt}
use Rattle.joined_books.proofs.wires.check_wires.Given as goal

abbrev pub invariant-loop-book : goal.invariant-loop-book
invariant-loop-book l = AllWithin (IsWholeAt l.books) l.books 0 l.book-index
