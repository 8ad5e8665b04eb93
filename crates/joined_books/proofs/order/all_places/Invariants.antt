use Rattle.std.proofs.Common.{◌≡◌, map, take}
use Rattle.joined_books.specs.Parts.{stamps_of}
use Rattle.joined_books.specs.Places.{all_places}
use Rattle.joined_books.proofs.order.all_places.Given as goal

abbrev pub invariant-loop-node : goal.invariant-loop-node
invariant-loop-node l = l.placed.items ≡ all_places 0 (map stamps_of (take l.node l.books))
