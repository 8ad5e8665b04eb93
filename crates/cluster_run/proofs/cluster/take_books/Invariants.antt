use Rattle.std.proofs.Common.{◌≡◌, ◌+◌, length}
use Rattle.cluster_run.proofs.cluster.take_books.Given as goal

-- one for each desk that is gone
abbrev pub invariant-loop-desk : goal.invariant-loop-desk
invariant-loop-desk g l =
    length l.books.items + length l.desk-iterator.rest.items ≡ length l.fn.books.items + length l.fn.shared.desks.items
