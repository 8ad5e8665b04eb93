-- Sorted by stamp and node, all entries are a merge: of each node they are its history, since where stamps rise there is one order.
use Rattle.std.proofs.Common.{◌≡◌, ◌≢◌, ◌⊎◌, ℕ, zero, suc, ◌+◌, ◌<◌, ◌≤◌, ◌==◌, Bool, true, false, cond, List, []}
use Rattle.std.proofs.Common.{◌∷◌, ◌++◌, filter, map, get_or, slice_index_or, inl, inr, if◌then◌else◌, refl, sym}
use Rattle.std.proofs.Common.{ap, ap₂, ◌∙◌, subst, arith, append-nil, true≢false, Ordering, is_lt, IsPermutation}
use Rattle.std.specs.Cmp.{IsTotalOrder}
use Rattle.std.specs.List.{All, AllPairs}
use Rattle.std.specs.Ordering.{nat_cmp, ordering_then}
use Rattle.std.proofs.lemmas.Bool.Decides.{eqb_tells}
use Rattle.std.proofs.lemmas.Cmp.{by_ranked, nat_cmp_total, on_total, ranked, then_total}
use Rattle.std.proofs.lemmas.List.Elements.{All-cons, All-head, All-nil, All-tail}
use Rattle.std.proofs.lemmas.List.Kept.{AllPairs-cons}
use Rattle.std.proofs.lemmas.List.Sorted.{IsPermutation-map, ranks_by, sorted_far}
use Rattle.dist_books.specs.Runs.{of_node}
use Rattle.dist_books.specs.Sorting.{IsInOrder, Precedes, Rises, SortMerges, placed_from}
use Rattle.dist_books.proofs.LogsAreOneRun.{own_first}
use Rattle.dist_books.proofs.Permuted.{filter_permuted, one_order, pair_first, pair_rest}

pub no_pairs : {A : Type 0} (R : A → A → Type 0) → AllPairs R []
no_pairs R i j d before below = absurd (omega arith)

-- ---- the entries of one node

module _ {X : Type 0} where
  abbrev is_of : ℕ → ℕ × X → Bool
  is_of k placed = k == placed.0

  of_node_is : (k : ℕ) (xs : List (ℕ × X)) → of_node k xs ≡ map (λ x. x.1) (filter (is_of k) xs)
  of_node_is k [] = refl
  of_node_is k (x ∷ xs) =
      let P : Bool → Type 0 = λ b. (if b then x.1 ∷ of_node k xs else of_node k xs)
      ≡ map (λ (y : ℕ × X). y.1) (cond b (x ∷ filter (is_of k) xs) (filter (is_of k) xs)) in
      elim (k == x.0) as P [ true ↦ ap (λ l. x.1 ∷ l) (of_node_is k xs) | false ↦ of_node_is k xs ]

  permuted : (k : ℕ) (xs ys : List (ℕ × X)) → IsPermutation xs ys → IsPermutation (of_node k xs) (of_node k ys)
  permuted k xs ys h =
      subst (λ l. IsPermutation l (of_node k ys)) (sym (of_node_is k xs))
      (subst (λ l. IsPermutation (map (λ (x : ℕ × X). x.1) (filter (is_of k) xs)) l) (sym (of_node_is k ys))
      (IsPermutation-map (λ (x : ℕ × X). x.1) (filter (is_of k) xs) (filter (is_of k) ys) (filter_permuted (is_of k) xs ys h)))

  all_of : (P : X → Type 0) (k : ℕ) (xs : List (ℕ × X)) → All (λ x. P x.1) xs → All P (of_node k xs)
  all_of P k [] h = All-nil P
  all_of P k (x ∷ xs) h =
      let rest = all_of P k xs (All-tail (λ z. P z.1) x xs h) in
      elim (k == x.0) as (λ b. All P (if b then x.1 ∷ of_node k xs else of_node k xs)) [
        | true ↦ All-cons P x.1 (of_node k xs) (All-head (λ z. P z.1) x xs h) rest
        | false ↦ rest
      ]

  back_of : (P : X → Type 0) (k : ℕ) (xs : List (ℕ × X)) → All P (of_node k xs) → All (λ y. k ≡ y.0 → P y.1) xs
  back_of P k [] h = All-nil (λ y. k ≡ y.0 → P y.1)
  back_of P k (x ∷ xs) h =
      let Q : Bool → Type 0 = λ b. All P (if b then x.1 ∷ of_node k xs else of_node k xs) in
      elim (eqb_tells k x.0) [
        | inl t ↦ (
            let own : All P (x.1 ∷ of_node k xs) = subst Q t.0 h in
            All-cons (λ y. k ≡ y.0 → P y.1) x xs (λ e. All-head P x.1 (of_node k xs) own)
            (back_of P k xs (All-tail P x.1 (of_node k xs) own)))
        | inr t ↦ All-cons (λ y. k ≡ y.0 → P y.1) x xs (λ e. absurd (t.1 e)) (back_of P k xs (subst Q t.0 h))
      ]

  of_both : (k : ℕ) (xs ys : List (ℕ × X)) → of_node k (xs ++ ys) ≡ of_node k xs ++ of_node k ys
  of_both k [] ys = refl
  of_both k (x ∷ xs) ys =
      let P : Bool → Type 0 = λ b. (if b then x.1 ∷ of_node k (xs ++ ys) else of_node k (xs ++ ys))
      ≡ (if b then x.1 ∷ of_node k xs else of_node k xs) ++ of_node k ys in
      elim (k == x.0) as P [ true ↦ ap (λ l. x.1 ∷ l) (of_both k xs ys) | false ↦ of_both k xs ys ]

  own_placed : (k : ℕ) (history : List X) → of_node k (map (λ entry. (k, entry)) history) ≡ history
  own_placed k [] = refl
  own_placed k (x ∷ xs) = own_first (k, x) (map (λ entry. (k, entry)) xs) ∙ ap (λ l. x ∷ l) (own_placed k xs)

  other_placed : (k j : ℕ) (history : List X) → k ≢ j → of_node k (map (λ entry. (j, entry)) history) ≡ []
  other_placed k j [] apart = refl
  other_placed k j (x ∷ xs) apart = elim (eqb_tells k j) [
    | inl t ↦ absurd (apart t.1)
    | inr t ↦ (
        let rest : List X = of_node k (map (λ entry. (j, entry)) xs) in
        ap (λ b. if b then x ∷ rest else rest) t.0 ∙ other_placed k j xs apart)
  ]

-- ---- what is placed

module _ {X : Type 0} (stamp : X → ℕ) where
  before_placed : (k j : ℕ) (histories : List (List X)) → k < j → of_node k (placed_from j histories) ≡ []
  before_placed k j [] below = refl
  before_placed k j (h ∷ hs) below =
      of_both k (map (λ entry. (j, entry)) h) (placed_from (suc j) hs)
      ∙ ap₂ (λ l m. l ++ m) (other_placed k j h (λ e. absurd (omega (arith, e, below)))) (before_placed k (suc j) hs (omega (arith, below)))

  of_placed : (j i : ℕ) (histories : List (List X)) → of_node (j + i) (placed_from j histories) ≡ slice_index_or histories i []
  of_placed j i [] = refl
  of_placed j zero (h ∷ hs) =
      let same : j + 0 ≡ j = omega arith in
      ap (λ k. of_node k (placed_from j (h ∷ hs))) same
      ∙ of_both j (map (λ entry. (j, entry)) h) (placed_from (suc j) hs)
      ∙ ap₂ (λ l m. l ++ m) (own_placed j h) (before_placed j (suc j) hs (omega arith)) ∙ append-nil h
  of_placed j (suc i) (h ∷ hs) =
      let same : j + suc i ≡ suc j + i = omega arith in
      of_both (j + suc i) (map (λ entry. (j, entry)) h) (placed_from (suc j) hs)
      ∙ ap (λ l. l ++ of_node (j + suc i) (placed_from (suc j) hs)) (other_placed (j + suc i) j h (λ e. absurd (omega (arith, e))))
      ∙ ap (λ k. of_node k (placed_from (suc j) hs)) same ∙ of_placed (suc j) i hs

  rises_at : (histories : List (List X)) → All (Rises stamp) histories → (k : ℕ) → Rises stamp (slice_index_or histories k [])
  rises_at [] h k = no_pairs (λ x y. stamp x < stamp y)
  rises_at (x ∷ xs) h zero = All-head (Rises stamp) x xs h
  rises_at (x ∷ xs) h (suc k) = rises_at xs (All-tail (Rises stamp) x xs h) k

  -- ---- what a sort leaves

  abbrev key : ℕ × X → ℕ × ℕ
  key x = (stamp x.1, x.0)

  abbrev ranks : ℕ × ℕ → ℕ × ℕ → Ordering
  ranks x y = ordering_then (nat_cmp x.0 y.0) (nat_cmp x.1 y.1)

  total : IsTotalOrder ranks
  total = then_total (on_total (λ (p : ℕ × ℕ). p.0) nat_cmp_total) (on_total (λ (p : ℕ × ℕ). p.1) nat_cmp_total)

  abbrev NotAfter : ℕ × X → ℕ × X → Type 0
  NotAfter x y = (stamp x.1 < stamp y.1) ⊎ ((stamp x.1 ≡ stamp y.1) × (x.0 ≤ y.0))

  not_after : (x y : ℕ × X) → is_lt (ranks (key y) (key x)) ≡ false → NotAfter x y
  not_after x y h =
      by_ranked (stamp y.1 < stamp x.1) (stamp y.1 ≡ stamp x.1) (stamp x.1 < stamp y.1) (nat_cmp (stamp y.1) (stamp x.1))
      (ranked (stamp y.1) (stamp x.1) _ refl)
      (λ e p. absurd (true≢false (sym (ap (λ o. is_lt (ordering_then o (nat_cmp y.0 x.0))) e) ∙ h)))
      (λ e p. by_ranked (y.0 < x.0) (y.0 ≡ x.0) (x.0 < y.0) (nat_cmp y.0 x.0) (ranked y.0 x.0 _ refl)
      (λ f q. absurd (true≢false (sym (ap₂ (λ o r. is_lt (ordering_then o r)) e f) ∙ h)))
      (λ f q. inr (sym p, omega (arith, q)))
      (λ f q. inr (sym p, omega (arith, q))))
      (λ e p. inl p)

  in_order : (merged : List (ℕ × X)) → IsInOrder stamp merged → AllPairs NotAfter merged
  in_order merged h i j d before below =
      not_after (get_or merged i d) (get_or merged j d) (sorted_far _ (ranks_by total key) merged h i j d (omega (arith, before)) below)

  no_later : (x y : ℕ × X) → NotAfter x y → stamp x.1 ≤ stamp y.1
  no_later x y h = elim h [ inl p ↦ omega (arith, p) | inr p ↦ omega (arith, p.0) ]

  own_in_order : (k : ℕ) (xs : List (ℕ × X)) → AllPairs NotAfter xs → AllPairs (λ x y. stamp x ≤ stamp y) (of_node k xs)
  own_in_order k [] h = no_pairs (λ x y. stamp x ≤ stamp y)
  own_in_order k (x ∷ xs) h =
      let rest = own_in_order k xs (pair_rest NotAfter x xs h) in
      let later : All (λ y. stamp x.1 ≤ stamp y) (of_node k xs) =
      all_of (λ y. stamp x.1 ≤ stamp y) k xs (λ i d below. no_later x (get_or xs i d) (pair_first NotAfter x xs h i d below)) in
      elim (k == x.0) as (λ b. AllPairs (λ x y. stamp x ≤ stamp y) (if b then x.1 ∷ of_node k xs else of_node k xs)) [
        | true ↦ AllPairs-cons (λ x y. stamp x ≤ stamp y) x.1 (of_node k xs) later rest
        | false ↦ rest
      ]

  -- ---- no two are at one stamp and node

  rest_rises : (k : ℕ) (x : ℕ × X) (xs : List (ℕ × X)) → Rises stamp (of_node k (x ∷ xs)) → Rises stamp (of_node k xs)
  rest_rises k x xs h =
      let P : Bool → Type 0 = λ b. Rises stamp (if b then x.1 ∷ of_node k xs else of_node k xs) → Rises stamp (of_node k xs) in
      (elim (k == x.0) as P [ true ↦ (λ r. pair_rest (λ x y. stamp x < stamp y) x.1 (of_node k xs) r) | false ↦ (λ r. r) ]) h

  apart : (x y : ℕ × X) → NotAfter x y → (x.0 ≡ y.0 → stamp x.1 < stamp y.1) → Precedes stamp x y
  apart x y h own = elim h [
    | inl p ↦ inl p
    | inr p ↦ elim (eqb_tells x.0 y.0) [
      | inl t ↦ inl (own t.1)
      | inr t ↦ inr (p.0, omega (arith, p.1, t.1))
    ]
  ]

  precedes : (xs : List (ℕ × X)) → AllPairs NotAfter xs → ((k : ℕ) → Rises stamp (of_node k xs)) → AllPairs (Precedes stamp) xs
  precedes [] h rises = no_pairs (Precedes stamp)
  precedes (x ∷ xs) h rises =
      let own : Rises stamp (x.1 ∷ of_node x.0 xs) = subst (Rises stamp) (own_first x xs) (rises x.0) in
      let higher = back_of (λ z. stamp x.1 < stamp z) x.0 xs (pair_first (λ x y. stamp x < stamp y) x.1 (of_node x.0 xs) own) in
      AllPairs-cons (Precedes stamp) x xs (λ k d below. apart x (get_or xs k d) (pair_first NotAfter x xs h k d below) (higher k d below))
      (precedes xs (pair_rest NotAfter x xs h) (λ k. rest_rises k x xs (rises k)))

  pub sort_merges : SortMerges stamp
  sort_merges histories merged rise same sorted =
      let up = in_order merged sorted in
      let all : (k : ℕ) → of_node k (placed_from 0 histories) ≡ slice_index_or histories k [] =
      λ k. (let same : k ≡ 0 + k = omega arith in ap (λ j. of_node j (placed_from 0 histories)) same ∙ of_placed 0 k histories) in
      let each : (k : ℕ) → of_node k merged ≡ slice_index_or histories k [] =
      λ k. one_order stamp (slice_index_or histories k []) (of_node k merged) (rises_at histories rise k)
      (subst (λ l. IsPermutation l (of_node k merged)) (all k) (permuted k (placed_from 0 histories) merged same))
      (own_in_order k merged up) in
      (each, precedes merged up (λ k. subst (Rises stamp) (sym (each k)) (rises_at histories rise k)))
