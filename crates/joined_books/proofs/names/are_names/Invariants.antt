use Rattle.std.proofs.Common.{◌≡◌, ℕ, ◌<◌, [], get_or}
use Rattle.dist_books.specs.Acting.{name_at}
use Rattle.joined_books.proofs.names.are_names.Given as goal

abbrev pub invariant-loop-place : goal.invariant-loop-place
invariant-loop-place l = (k : ℕ) → k < l.place → get_or l.names k [] ≡ name_at l.nodes k
