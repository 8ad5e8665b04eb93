-- Where the entries of several histories stand, and all of them in one order. Of a history the stamps of its entries are enough.
use Rattle.std.specs.Prelude.{◌≡◌, ◌⊎◌, ℕ, suc, ◌<◌, List, [], ◌∷◌, ◌++◌, AllPairs, IsSortedByKey, ◌==◌, filter}
use Rattle.std.specs.Ordering.{nat_cmp, ordering_then}
use Rattle.joined_books.specs.declared.trace.Placed.{Placed}

-- the entries of a node with these stamps, from this position on
abbrev pub places_from : (node position : ℕ) → List ℕ → List Placed
places_from node position [] = []
places_from node position (stamp ∷ stamps) =
    record { stamp = stamp; node = node; position = position } ∷ places_from node (suc position) stamps

-- the entries of all nodes, one node after the other, from this one on
abbrev pub all_places : (node : ℕ) → List (List ℕ) → List Placed
all_places node [] = []
all_places node (stamps ∷ histories) = places_from node 0 stamps ++ all_places (suc node) histories

-- by stamp, and then by node
abbrev pub Precedes : Placed → Placed → Type 0
Precedes x y = (x.stamp < y.stamp) ⊎ ((x.stamp ≡ y.stamp) × (x.node < y.node))

-- each node's entries, each once and in the order of its history, and no others; and each before those that it precedes
pub record IsOrdered (histories : ℕ → List ℕ) (entries : List Placed) : Type 0 where
  pub each : (node : ℕ) → filter (λ placed. node == placed.node) entries ≡ places_from node 0 (histories node)
  pub sorted : AllPairs Precedes entries

-- as a sort leaves them
abbrev pub IsByStampAndNode : List Placed → Type 0
IsByStampAndNode entries = IsSortedByKey {K = ℕ × ℕ} (λ (x : Placed). (x.stamp, x.node))
    (λ x y. ordering_then (nat_cmp x.0 y.0) (nat_cmp x.1 y.1)) entries
