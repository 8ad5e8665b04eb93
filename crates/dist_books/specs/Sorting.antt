-- All entries, sorted by their stamps and then by the numbers of their nodes.
use Rattle.std.specs.Prelude.{◌≡◌, ◌⊎◌, ℕ, suc, ◌<◌, List, [], ◌∷◌, ◌++◌, All, AllPairs, IsPermutation, IsSortedByKey, map, slice_index_or}
use Rattle.std.specs.Ordering.{nat_cmp, ordering_then}
use Rattle.dist_books.specs.Runs.{of_node}

-- each entry with the number of its node, node by node, from this number on
abbrev pub placed_from : {X : Type 0} → ℕ → List (List X) → List (ℕ × X)
placed_from k [] = []
placed_from k (history ∷ histories) = map (λ entry. (k, entry)) history ++ placed_from (suc k) histories

module _ {X : Type 0} (stamp : X → ℕ) where
  abbrev pub Rises : List X → Type 0
  Rises history = AllPairs (λ x y. stamp x < stamp y) history

  -- by stamp, and then by node
  abbrev pub Precedes : ℕ × X → ℕ × X → Type 0
  Precedes x y = (stamp x.1 < stamp y.1) ⊎ ((stamp x.1 ≡ stamp y.1) × (x.0 < y.0))

  abbrev pub IsInOrder : List (ℕ × X) → Type 0
  IsInOrder = IsSortedByKey {K = ℕ × ℕ} (λ placed. (stamp placed.1, placed.0))
      (λ x y. ordering_then (nat_cmp x.0 y.0) (nat_cmp x.1 y.1))

  -- what a sort makes of all entries has each history in its order, and each entry before those that it precedes
  abbrev pub SortMerges : Type 0
  SortMerges = (histories : List (List X)) (merged : List (ℕ × X)) → All Rises histories
      → IsPermutation (placed_from 0 histories) merged → IsInOrder merged
      → ((k : ℕ) → of_node k merged ≡ slice_index_or histories k []) × AllPairs Precedes merged
