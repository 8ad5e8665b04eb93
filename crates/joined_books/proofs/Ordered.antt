-- A sort of the places of all entries has each history in its order.
use Rattle.std.proofs.Common.{◌≡◌, ℕ, zero, suc, ◌+◌, ◌<◌, ◌==◌, Bool, true, false, List, [], ◌∷◌, ◌++◌, filter, get_or, length, map}
use Rattle.std.proofs.Common.{refl, sym, ap, ◌∙◌, subst, append-nil, append_assoc, arith, slice_index_or, if◌then◌else◌, IsPermutation}
use Rattle.std.specs.List.{All, AllPairs}
use Rattle.std.proofs.Math.ListN.{get_or-map}
use Rattle.std.proofs.lemmas.List.{length-map}
use Rattle.std.proofs.lemmas.List as lists
use Rattle.std.proofs.lemmas.List.Elements.{All-cons, All-head, All-nil, All-tail}
use Rattle.std.proofs.lemmas.List.Kept.{AllPairs-cons}
use Rattle.std.proofs.lemmas.List.Sorted.{IsPermutation-map}
use Rattle.dist_books.proofs.SortedLogs.{no_pairs}
use Rattle.joined_books.specs.Places.{IsByStampAndNode, IsOrdered, all_places, places_from}
use Rattle.joined_books.specs.declared.trace.Placed.{Placed}
use Rattle.dist_books.proofs.SortedLogs.{sort_merges}
use Rattle.dist_books.specs.Runs.{of_node}
use Rattle.dist_books.specs.Sorting.{IsInOrder, Rises, placed_from}
use Rattle.dist_books.specs.Sorting as merging

abbrev pub stamp_of : Placed → ℕ
stamp_of placed = placed.stamp

abbrev tag : Placed → ℕ × Placed
tag placed = (placed.node, placed)

-- ---- the places of each history

abbrev lists_from : ℕ → List (List ℕ) → List (List Placed)
lists_from node [] = []
lists_from node (stamps ∷ histories) = places_from node 0 stamps ∷ lists_from (suc node) histories

map_append : {X Y : Type 0} (f : X → Y) (xs ys : List X) → map f (xs ++ ys) ≡ map f xs ++ map f ys
map_append f [] ys = refl
map_append f (x ∷ xs) ys = ap (λ l. f x ∷ l) (map_append f xs ys)

tagged : (node position : ℕ) (stamps : List ℕ)
    → map (λ entry. (node, entry)) (places_from node position stamps) ≡ map tag (places_from node position stamps)
tagged node position [] = refl
tagged node position (stamp ∷ stamps) =
    ap (λ l. tag (record { stamp = stamp; node = node; position = position }) ∷ l) (tagged node (suc position) stamps)

all_tagged : (node : ℕ) (histories : List (List ℕ)) → placed_from node (lists_from node histories) ≡ map tag (all_places node histories)
all_tagged node [] = refl
all_tagged node (stamps ∷ histories) =
    ap (λ l. map (λ entry. (node, entry)) (places_from node 0 stamps) ++ l) (all_tagged (suc node) histories)
    ∙ ap (λ l. l ++ map tag (all_places (suc node) histories)) (tagged node 0 stamps)
    ∙ sym (map_append tag (places_from node 0 stamps) (all_places (suc node) histories))

list_at : (node : ℕ) (histories : List (List ℕ)) (k : ℕ)
    → slice_index_or (lists_from node histories) k [] ≡ places_from (node + k) 0 (slice_index_or histories k [])
list_at node [] k = refl
list_at node (stamps ∷ histories) zero = ap (λ n. places_from n 0 stamps) (let e : node ≡ node + 0 = omega arith in e)
list_at node (stamps ∷ histories) (suc k) =
    list_at (suc node) histories k ∙ ap (λ n. places_from n 0 (slice_index_or histories k []))
    (let e : suc node + k ≡ node + suc k = omega arith in e)

above : (n node position : ℕ) (stamps : List ℕ) → All (λ x. n < x) stamps → All (λ x. n < stamp_of x) (places_from node position stamps)
above n node position [] h = All-nil (λ x. n < stamp_of x)
above n node position (stamp ∷ stamps) h =
    All-cons (λ x. n < stamp_of x) _ _ (All-head (λ x. n < x) stamp stamps h)
    (above n node (suc position) stamps (All-tail (λ x. n < x) stamp stamps h))

abbrev pub Rise : List ℕ → Type 0
Rise stamps = AllPairs (λ x y. x < y) stamps

pairs_head : (x : ℕ) (xs : List ℕ) → Rise (x ∷ xs) → All (λ y. x < y) xs
pairs_head x xs h k d below = h 0 (suc k) d (omega arith) (omega arith)

pairs_tail : (x : ℕ) (xs : List ℕ) → Rise (x ∷ xs) → Rise xs
pairs_tail x xs h i j d before below = h (suc i) (suc j) d (omega arith) (omega arith)

places_rise : (node position : ℕ) (stamps : List ℕ) → Rise stamps → Rises stamp_of (places_from node position stamps)
places_rise node position [] h = no_pairs (λ x y. stamp_of x < stamp_of y)
places_rise node position (stamp ∷ stamps) h =
    AllPairs-cons (λ x y. stamp_of x < stamp_of y) _ _ (above stamp node (suc position) stamps (pairs_head stamp stamps h))
    (places_rise node (suc position) stamps (pairs_tail stamp stamps h))

lists_rise : (node : ℕ) (histories : List (List ℕ)) → All Rise histories → All (Rises stamp_of) (lists_from node histories)
lists_rise node [] h = All-nil (Rises stamp_of)
lists_rise node (stamps ∷ histories) h =
    All-cons (Rises stamp_of) _ _ (places_rise node 0 stamps (All-head Rise stamps histories h))
    (lists_rise (suc node) histories (All-tail Rise stamps histories h))

-- ---- what a sort leaves

own_is : (node : ℕ) (items : List Placed) → filter (λ placed. node == placed.node) items ≡ of_node node (map tag items)
own_is node [] = refl
own_is node (item ∷ items) =
    let P : Bool → Type 0 = λ b. (if b then item ∷ filter (λ placed. node == placed.node) items else filter
    (λ placed. node == placed.node) items)
    ≡ (if b then item ∷ of_node node (map tag items) else of_node node (map tag items)) in
    elim (node == item.node) as P [ true ↦ ap (λ l. item ∷ l) (own_is node items) | false ↦ own_is node items ]

in_order : (items : List Placed) → IsByStampAndNode items → IsInOrder stamp_of (map tag items)
in_order items h k d low below =
    let within : k + 1 < length items = omega (arith, length-map items tag) in
    let a = lists.get_or-map tag items (k + 1) d.1 d within in
    let b = lists.get_or-map tag items k d.1 d (omega arith) in
    rw (a, b) (h k d.1 low within)

pub ordered : (histories : List (List ℕ)) (items : List Placed) → All Rise histories → IsPermutation (all_places 0 histories) items
    → IsByStampAndNode items → IsOrdered (λ k. slice_index_or histories k []) items
ordered histories items rise same sorted =
    let P : List (ℕ × Placed) → Type 0 = λ l. IsPermutation l (map tag items) in
    let moved = subst P (sym (all_tagged 0 histories)) (IsPermutation-map tag (all_places 0 histories) items same) in
    let h = sort_merges stamp_of (lists_from 0 histories) (map tag items) (lists_rise 0 histories rise) moved (in_order items sorted) in
    record {
      each = λ node. own_is node items ∙ h.0 node ∙ list_at 0 histories node
          ∙ ap (λ n. places_from n 0 (slice_index_or histories node [])) (let e : 0 + node ≡ node = omega arith in e);
      sorted = λ i j d before below.
          (let Q : ℕ × Placed → ℕ × Placed → Type 0 = merging.Precedes stamp_of in
          let p = h.1 i j (tag d) before (omega (arith, length-map items tag)) in
          subst (λ x. Q x (tag (get_or items j d))) (get_or-map tag items i d)
          (subst (λ y. Q (get_or (map tag items) i (tag d)) y) (get_or-map tag items j d) p));
    }

-- ---- the places as they are filled in

pub places_push : (node position : ℕ) (stamps : List ℕ) (stamp : ℕ)
    → places_from node position (stamps ++ stamp ∷ []) ≡ places_from node position stamps ++ record
    { stamp = stamp; node = node; position = position + length stamps } ∷ []
places_push node position [] stamp =
    ap (λ p. record { stamp = stamp; node = node; position = p } ∷ []) (let e : position ≡ position + 0 = omega arith in e)
places_push node position (s ∷ stamps) stamp =
    ap (λ l. record { stamp = s; node = node; position = position } ∷ l) (places_push node (suc position) stamps stamp
    ∙ ap (λ p. places_from node (suc position) stamps ++ record { stamp = stamp; node = node; position = p } ∷ [])
    (let e : suc position + length stamps ≡ position + suc (length stamps) = omega arith in e))

pub all_push : (node : ℕ) (histories : List (List ℕ)) (stamps : List ℕ)
    → all_places node (histories ++ stamps ∷ []) ≡ all_places node histories ++ places_from (node + length histories) 0 stamps
all_push node [] stamps =
    append-nil (places_from node 0 stamps) ∙ ap (λ n. places_from n 0 stamps) (let e : node ≡ node + 0 = omega arith in e)
all_push node (h ∷ histories) stamps =
    ap (λ l. places_from node 0 h ++ l) (all_push (suc node) histories stamps
    ∙ ap (λ n. all_places (suc node) histories ++ places_from n 0 stamps)
    (let e : suc node + length histories ≡ node + suc (length histories) = omega arith in e))
    ∙ sym (append_assoc (places_from node 0 h) (all_places (suc node) histories) (places_from (node + length (h ∷ histories)) 0 stamps))
