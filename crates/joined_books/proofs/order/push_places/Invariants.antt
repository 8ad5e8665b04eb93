use Rattle.std.proofs.Common.{◌≡◌, ◌++◌, take}
use Rattle.joined_books.specs.Parts.{stamps_in}
use Rattle.joined_books.specs.Places.{places_from}
use Rattle.joined_books.proofs.order.push_places.Given as goal

abbrev pub invariant-loop-position : goal.invariant-loop-position
invariant-loop-position l = l.placed.items ≡ l.initial.placed.items ++ places_from l.node 0 (stamps_in (take l.position l.entries))
