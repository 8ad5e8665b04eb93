use Rattle.std.proofs.Common.{◌≡◌, ℕ, ◌<◌}
use Rattle.joined_books.specs.Parcels.{said_at}
use Rattle.joined_books.proofs.wires.first_torn.Given as goal

abbrev pub invariant-loop-place : goal.invariant-loop-place
invariant-loop-place l = (i : ℕ) → i < l.place → said_at l.put i ≡ said_at l.taken i
