use Rattle.std.proofs.Common.{◌≡◌, drop}
use Rattle.joined_books.specs.Wires.{outlets_named}
use Rattle.joined_books.proofs.finding.outlets_named.Given as goal

abbrev pub invariant-loop-book : goal.invariant-loop-book
invariant-loop-book l = outlets_named l.books l.name ≡ outlets_named (drop l.book-index l.books) l.name
