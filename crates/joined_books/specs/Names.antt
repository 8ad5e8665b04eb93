-- Books that are of the nodes of one world, each at its place.
use Rattle.std.specs.Prelude.{◌≡◌, ◌≢◌, ◌⊎◌, ℕ, ◌<◌, List, [], length, slice_index_or}
use Rattle.dist_books.specs.Acting.{Nodes, name_at, names_of}
use Rattle.joined_books.specs.Each.{AllAt}
use Rattle.node_lock.specs.Seen.{BookSeen}
use Rattle.dist_books.specs.Acting.{nowhere}

-- of these nodes the book is of the one at this place: it has its setup, and the names of all; and none before has its name
pub record IsInPlace (nodes : Nodes) (k : ℕ) (book : BookSeen) : Type 0 where
  pub within : k < length nodes
  pub place : book.place ≡ k
  pub names : book.names ≡ names_of nodes
  pub setup : book.setup ≡ (slice_index_or nodes k nowhere).1
  pub once : (j : ℕ) → j < k → name_at nodes j ≢ name_at nodes k

-- each book is, and each node has one
pub record AreInPlace (nodes : Nodes) (books : List BookSeen) : Type 0 where
  pub each : AllAt (IsInPlace nodes) books
  pub one_each : length books ≡ length nodes

pub record IsOutOfPlace (nodes : Nodes) (books : List BookSeen) (k : ℕ) : Type 0 where
  pub book : BookSeen
  pub within : k < length books
  pub is : slice_index_or books k book ≡ book
  pub strange : IsInPlace nodes k book → ⊥

-- the book at this place isn't that of the node there, or the node there is the first that has none
abbrev pub IsStrangeBook : Nodes → List BookSeen → ℕ → Type 0
IsStrangeBook nodes books k = IsOutOfPlace nodes books k ⊎ ((k ≡ length books) × (length books < length nodes))
