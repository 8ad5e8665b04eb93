use Rattle.std.proofs.Common.{ℕ, ◌<◌, slice_index_or}
use Rattle.joined_books.specs.Names.{IsInPlace}
use Rattle.node_lock.specs.Seen.{BookSeen}
use Rattle.joined_books.proofs.names.strange_book.Given as goal

abbrev pub invariant-loop-place : goal.invariant-loop-place
invariant-loop-place l = (k : ℕ) → k < l.place → (d : BookSeen) → IsInPlace l.nodes k (slice_index_or l.books k d)
