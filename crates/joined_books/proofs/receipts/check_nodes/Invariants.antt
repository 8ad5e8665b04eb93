use Rattle.std.proofs.Common.{ℕ, ◌<◌}
use Rattle.joined_books.specs.Receipts.{AreEnteredApart}
use Rattle.joined_books.proofs.receipts.check_nodes.Given as goal

abbrev pub invariant-loop-node : goal.invariant-loop-node
invariant-loop-node l = (k : ℕ) → k < l.node → AreEnteredApart l.books l.seats k
