use Rattle.std.specs.List.{AllWithin}
use Rattle.joined_books.specs.Wires.{IsWhole, own}
use Rattle.joined_books.proofs.wires.tear_at.Given as goal

abbrev pub invariant-loop-outlet : goal.invariant-loop-outlet
invariant-loop-outlet l = AllWithin (IsWhole l.books (own l.fn.book)) l.outlet-items 0 l.outlet-index
