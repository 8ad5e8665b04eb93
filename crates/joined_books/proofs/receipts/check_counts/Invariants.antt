use Rattle.std.proofs.Common.{ℕ, ◌<◌}
use Rattle.joined_books.specs.Parts.{entries_at}
use Rattle.joined_books.specs.Receipts.{IsShort, receipts_of}
use Rattle.joined_books.proofs.receipts.check_counts.Given as goal

abbrev pub invariant-loop-node : goal.invariant-loop-node
invariant-loop-node l = (k : ℕ) → k < l.node → IsShort (entries_at l.books k) (receipts_of k l.seats) → ⊥
