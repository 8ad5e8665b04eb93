use Rattle.std.proofs.Common.{◌≢◌, ℕ, ◌<◌}
use Rattle.dist_books.specs.Acting.{name_at}
use Rattle.joined_books.proofs.names.is_new.Given as goal

abbrev pub invariant-loop-other : goal.invariant-loop-other
invariant-loop-other l = (j : ℕ) → j < l.other → name_at l.nodes j ≢ name_at l.nodes l.place
