-- Places in order, and the elements of histories that stand there: whatever these are, they have stamps.
use Rattle.std.proofs.Common.{◌≡◌, ℕ, suc, ◌+◌, ◌<◌, ◌==◌, Bool, true, false, Some, List, [], ◌∷◌, filter, get_or, length}
use Rattle.std.proofs.Common.{map, inl, inr, refl, sym, ap, ◌∙◌, subst, arith, slice_get, slice_index_or, if◌then◌else◌}
use Rattle.std.specs.List.{All, AllPairs, AllZip}
use Rattle.std.proofs.lemmas.Bool.{eq-eqb}
use Rattle.std.proofs.lemmas.List.{length-map}
use Rattle.std.proofs.lemmas.List as lists
use Rattle.std.proofs.lemmas.List.Elements.{All-cons, All-head, All-nil, All-tail}
use Rattle.joined_books.specs.Places.{IsOrdered, Precedes, places_from}
use Rattle.joined_books.specs.declared.trace.Placed.{Placed}
use Rattle.dist_books.specs.Runs.{of_node}
use Rattle.dist_books.specs.Sorting as merging

-- what holds of the places of each node holds of all
all_from_nodes : (Q : Placed → Type 0) (items : List Placed) → ((k : ℕ) → All Q (filter (λ placed. k == placed.node) items)) → All Q items
all_from_nodes Q [] h = All-nil Q
all_from_nodes Q (item ∷ items) h =
    let own : All Q (item ∷ filter (λ placed. item.node == placed.node) items) =
    by_test (item.node == item.node) (eq-eqb item.node item.node refl) (h item.node) in
    All-cons Q item items (All-head Q item (filter (λ placed. item.node == placed.node) items) own)
    (all_from_nodes Q items (λ k. rest k (k == item.node) (h k)))
  where
    by_test : (b : Bool) → b ≡ true
        → All Q (if b then item ∷ filter (λ placed. item.node == placed.node) items else filter (λ placed. item.node == placed.node) items)
        → All Q (item ∷ filter (λ placed. item.node == placed.node) items)
    by_test b e a =
        subst (λ c. All Q (if c then item ∷ filter (λ placed. item.node == placed.node) items else filter
        (λ placed. item.node == placed.node) items)) e a

    rest : (k : ℕ) (b : Bool) → All Q
        (if b then item ∷ filter (λ placed. k == placed.node) items else filter (λ placed. k == placed.node) items)
        → All Q (filter (λ placed. k == placed.node) items)
    rest k true a = All-tail Q item (filter (λ placed. k == placed.node) items) a
    rest k false a = a

module _ {E : Type 0} (stamp : E → ℕ) (history : ℕ → List E) (d : E) where
  abbrev pub element : Placed → E
  element placed = slice_index_or (history placed.node) placed.position d

  abbrev pub tagged : Placed → ℕ × E
  tagged placed = (placed.node, element placed)

  abbrev pub stamps_at : ℕ → List ℕ
  stamps_at k = map stamp (history k)

  -- the element stands at the place, with its stamp
  pub record IsAt (placed : Placed) (e : E) : Type 0 where
    pub there : slice_get (history placed.node) placed.position ≡ Some e
    pub stamp_is : stamp e ≡ placed.stamp

  -- from this position on the history is this
  record Goes (k position : ℕ) (rest : List E) : Type 0 where
    at : (j : ℕ) → slice_index_or (history k) (position + j) d ≡ slice_index_or rest j d
    get : (j : ℕ) → slice_get (history k) (position + j) ≡ slice_get rest j

  goes_on : (k position : ℕ) (e : E) (rest : List E) → Goes k position (e ∷ rest) → Goes k (suc position) rest
  goes_on k position e rest h = record {
    at = λ j. ap (λ n. slice_index_or (history k) n d) (let s : suc position + j ≡ position + suc j = omega arith in s) ∙ h.at (suc j);
    get = λ j. ap (λ n. slice_get (history k) n) (let s : suc position + j ≡ position + suc j = omega arith in s) ∙ h.get (suc j);
  }

  here : (k position : ℕ) (e : E) (rest : List E) → Goes k position (e ∷ rest) → slice_index_or (history k) position d ≡ e
  here k position e rest h = ap (λ n. slice_index_or (history k) n d) (let s : position ≡ position + 0 = omega arith in s) ∙ h.at 0

  here_got : (k position : ℕ) (e : E) (rest : List E) → Goes k position (e ∷ rest) → slice_get (history k) position ≡ Some e
  here_got k position e rest h = ap (λ n. slice_get (history k) n) (let s : position ≡ position + 0 = omega arith in s) ∙ h.get 0

  elements : (k position : ℕ) (rest : List E) → Goes k position rest → map element (places_from k position (map stamp rest)) ≡ rest
  elements k position [] h = refl
  elements k position (e ∷ rest) h =
      ap (λ x. x ∷ map element (places_from k (suc position) (map stamp rest))) (here k position e rest h)
      ∙ ap (λ l. e ∷ l) (elements k (suc position) rest (goes_on k position e rest h))

  are_at : (k position : ℕ) (rest : List E) → Goes k position rest
      → All (λ placed. IsAt placed (element placed)) (places_from k position (map stamp rest))
  are_at k position [] h = All-nil (λ placed. IsAt placed (element placed))
  are_at k position (e ∷ rest) h =
      let is = here k position e rest h in
      All-cons (λ placed. IsAt placed (element placed)) _ _
      (record { there = here_got k position e rest h ∙ ap Some (sym is); stamp_is = ap stamp is })
      (are_at k (suc position) rest (goes_on k position e rest h))

  whole : (k : ℕ) → Goes k 0 (history k)
  whole k = record {
    at = λ j. ap (λ n. slice_index_or (history k) n d) (let s : 0 + j ≡ j = omega arith in s);
    get = λ j. ap (λ n. slice_get (history k) n) (let s : 0 + j ≡ j = omega arith in s);
  }

  of_node_tagged : (k : ℕ) (items : List Placed) → of_node k (map tagged items) ≡ map element (filter (λ placed. k == placed.node) items)
  of_node_tagged k [] = refl
  of_node_tagged k (item ∷ items) =
      let P : Bool → Type 0 = λ b. (if b then element item ∷ of_node k (map tagged items) else of_node k (map tagged items))
      ≡ map element (if b then item ∷ filter (λ placed. k == placed.node) items else filter (λ placed. k == placed.node) items) in
      elim (k == item.node) as P [ true ↦ ap (λ l. element item ∷ l) (of_node_tagged k items) | false ↦ of_node_tagged k items ]

  -- ---- places that are in order

  pub each : (items : List Placed) → IsOrdered stamps_at items → (k : ℕ) → of_node k (map tagged items) ≡ history k
  each items h k = of_node_tagged k items ∙ ap (λ l. map element l) (h.each k) ∙ elements k 0 (history k) (whole k)

  pub all_at : (items : List Placed) → IsOrdered stamps_at items → All (λ placed. IsAt placed (element placed)) items
  all_at items h =
      all_from_nodes (λ placed. IsAt placed (element placed)) items
      (λ k. subst (λ l. All (λ placed. IsAt placed (element placed)) l) (sym (h.each k)) (are_at k 0 (history k) (whole k)))

  pub sorted : (items : List Placed) → IsOrdered stamps_at items → AllPairs (merging.Precedes stamp) (map tagged items)
  sorted items h i j e before below =
      let within : j < length items = omega (arith, length-map items tagged) in
      let p : Placed = record { stamp = 0; node = 0; position = 0 } in
      let x = get_or items i p in
      let y = get_or items j p in
      let all = all_at items h in
      let a = (all i p (omega arith)).stamp_is in
      let b = (all j p within).stamp_is in
      rw (lists.get_or-map tagged items i p e (omega arith), lists.get_or-map tagged items j p e within)
      (precedes x y (element x) (element y) a b (h.sorted i j p before within))
    where
      precedes : (x y : Placed) (v w : E) → stamp v ≡ x.stamp → stamp w ≡ y.stamp → Precedes x y
          → merging.Precedes stamp (x.node, v) (y.node, w)
      precedes x y v w a b (inl h) = inl (omega arith)
      precedes x y v w a b (inr h) = inr (a ∙ h.0 ∙ sym b, h.1)

  -- the elements as they are shown
  pub record IsShown (placed : Placed) (of : ℕ × E) : Type 0 where
    pub node : of.0 ≡ placed.node
    pub at : IsAt placed of.1

  zipped : (items : List Placed) → All (λ placed. IsAt placed (element placed)) items → AllZip IsShown items (map tagged items)
  zipped [] h = tt
  zipped (item ∷ items) h = (
    record { node = refl; at = All-head (λ placed. IsAt placed (element placed)) item items h },
    zipped items (All-tail (λ placed. IsAt placed (element placed)) item items h),
  )

  pub shown : (items : List Placed) → IsOrdered stamps_at items → AllZip IsShown items (map tagged items)
  shown items h = zipped items (all_at items h)
