-- Lists of the same elements in another order: a filter leaves them so, and where numbers of the elements rise there is one order.
use Rattle.std.proofs.Common.{◌≡◌, ℕ, zero, suc, ◌<◌, ◌≤◌, Bool, true, false, not, cond, List, [], ◌∷◌, ◌++◌, filter, length}
use Rattle.std.proofs.Common.{get_or, set, swap, refl, sym, ap, ap₂, ◌∙◌, subst, arith, inl, inr, ltb, IsPermutation}
use Rattle.std.specs.List.{All, AllPairs}
use Rattle.std.proofs.lemmas.Bool.Decides.{leb_tells}
use Rattle.std.proofs.lemmas.List.Elements.{All-cons, All-head, All-nil, All-tail}
use Rattle.std.proofs.lemmas.List.Kept.{AllPairs-filter}
use Rattle.std.proofs.lemmas.List.Sorted.{All-permutation, IsPermutation-cons, IsPermutation-keeps, IsPermutation-refl}
use Rattle.std.proofs.lemmas.List.Sorted.{IsPermutation-swap, IsPermutation-trans, length_permutation}

-- ---- what holds of each exchange of neighbours holds of each order

module _ {A : Type 0} (R : List A → List A → Type 0) (same : (xs : List A) → R xs xs)
    (skip : (x : A) (xs ys : List A) → R xs ys → R (x ∷ xs) (x ∷ ys))
    (turn : (x y : A) (xs : List A) → R (x ∷ y ∷ xs) (y ∷ x ∷ xs))
    (chain : (xs ys zs : List A) → R xs ys → R ys zs → R xs zs) where
  to_head : (l : List A) (j : ℕ) (x d : A) → j < length l → R (x ∷ l) (get_or l j d ∷ set l j x)
  to_head [] j x d h = absurd (omega arith)
  to_head (y ∷ l) zero x d h = turn x y l
  to_head (y ∷ l) (suc j) x d h =
      chain _ _ _ (turn x y l) (chain _ _ _ (skip y _ _ (to_head l j x d (omega arith))) (turn y (get_or l j d) (set l j x)))

  exchanged : (l : List A) (i j : ℕ) (d : A) → i < length l → j < length l → R l (set (set l i (get_or l j d)) j (get_or l i d))
  exchanged [] i j d p q = absurd (omega arith)
  exchanged (x ∷ l) zero zero d p q = same (x ∷ l)
  exchanged (x ∷ l) zero (suc j) d p q = to_head l j x d (omega arith)
  exchanged (x ∷ l) (suc i) zero d p q = to_head l i x d (omega arith)
  exchanged (x ∷ l) (suc i) (suc j) d p q = skip x _ _ (exchanged l i j d (omega arith) (omega arith))

  swapped : (l : List A) (i j : ℕ) → i < length l → j < length l → R l (swap l i j)
  swapped [] i j p q = same []
  swapped (x ∷ l) i j p q = exchanged (x ∷ l) i j x p q

  along : (xs ys : List A) → IsPermutation xs ys → R xs ys
  along xs = IsPermutation-keeps xs (R xs) (same xs) (λ l i j p q h. chain xs l _ h (swapped l i j p q))

two_turned : {A : Type 0} (x y : A) (xs : List A) → IsPermutation (x ∷ y ∷ xs) (y ∷ x ∷ xs)
two_turned x y xs = IsPermutation-swap (x ∷ y ∷ xs) (y ∷ x ∷ xs) 0 1 (omega arith) (omega arith) refl

module _ {A : Type 0} (p : A → Bool) where
  skips : (x : A) (xs ys : List A) → IsPermutation (filter p xs) (filter p ys) → IsPermutation (filter p (x ∷ xs)) (filter p (x ∷ ys))
  skips x xs ys h =
      let P : Bool → Type 0 = λ b. IsPermutation (cond b (x ∷ filter p xs) (filter p xs)) (cond b (x ∷ filter p ys) (filter p ys)) in
      elim (p x) as P [ true ↦ IsPermutation-cons x _ _ h | false ↦ h ]

  turns : (x y : A) (xs : List A) → IsPermutation (filter p (x ∷ y ∷ xs)) (filter p (y ∷ x ∷ xs))
  turns x y xs =
      let P : Bool → Bool → Type 0 =
      λ b c. IsPermutation (cond b (x ∷ cond c (y ∷ filter p xs) (filter p xs)) (cond c (y ∷ filter p xs) (filter p xs)))
      (cond c (y ∷ cond b (x ∷ filter p xs) (filter p xs)) (cond b (x ∷ filter p xs) (filter p xs))) in
      elim (p x) as (λ b. P b (p y)) [
        | true ↦ elim (p y) as (P true) [ true ↦ two_turned x y (filter p xs) | false ↦ IsPermutation-refl _ ]
        | false ↦ elim (p y) as (P false) [ true ↦ IsPermutation-refl _ | false ↦ IsPermutation-refl _ ]
      ]

  pub filter_permuted : (xs ys : List A) → IsPermutation xs ys → IsPermutation (filter p xs) (filter p ys)
  filter_permuted = along (λ xs ys. IsPermutation (filter p xs) (filter p ys)) (λ xs. IsPermutation-refl _) skips turns
      (λ xs ys zs. IsPermutation-trans _ _ _)

-- ---- filters that pass all or none

module _ {A : Type 0} (p : A → Bool) where
  all_pass : (xs : List A) → All (λ x. p x ≡ true) xs → filter p xs ≡ xs
  all_pass [] h = refl
  all_pass (x ∷ xs) h =
      ap (λ b. cond b (x ∷ filter p xs) (filter p xs)) (All-head (λ z. p z ≡ true) x xs h)
      ∙ ap (λ l. x ∷ l) (all_pass xs (All-tail (λ z. p z ≡ true) x xs h))

  none_pass : (xs : List A) → All (λ x. p x ≡ false) xs → filter p xs ≡ []
  none_pass [] h = refl
  none_pass (x ∷ xs) h =
      ap (λ b. cond b (x ∷ filter p xs) (filter p xs)) (All-head (λ z. p z ≡ false) x xs h)
      ∙ none_pass xs (All-tail (λ z. p z ≡ false) x xs h)

-- ---- one order

pub pair_first : {A : Type 0} (R : A → A → Type 0) (x : A) (xs : List A) → AllPairs R (x ∷ xs) → All (R x) xs
pair_first R x xs h k d below = h 0 (suc k) d (omega arith) (omega arith)

pub pair_rest : {A : Type 0} (R : A → A → Type 0) (x : A) (xs : List A) → AllPairs R (x ∷ xs) → AllPairs R xs
pair_rest R x xs h i j d before below = h (suc i) (suc j) d (omega arith) (omega arith)

one : {A : Type 0} (x : A) (ys : List A) → IsPermutation (x ∷ []) ys → ys ≡ x ∷ []
one x [] h = absurd (omega (arith, length_permutation _ _ h))
one {A = A} x (y ∷ []) h =
    let is_x : A → Type 0 = λ z. z ≡ x in
    let all = All-permutation is_x (x ∷ []) (y ∷ []) h (All-cons is_x x [] refl (All-nil is_x)) in
    ap (λ z. z ∷ []) (All-head is_x y [] all)
one x (y ∷ z ∷ ys) h = absurd (omega (arith, length_permutation _ _ h))

module _ {A : Type 0} (n : A → ℕ) where
  abbrev is_above : A → A → Bool
  is_above x z = ltb (n x) (n z)

  abbrev is_no_higher : A → A → Bool
  is_no_higher x z = not (is_above x z)

  abbrev Rises : List A → Type 0
  Rises xs = AllPairs (λ x y. n x < n y) xs

  abbrev NeverFalls : List A → Type 0
  NeverFalls xs = AllPairs (λ x y. n x ≤ n y) xs

  above : (x z : A) → n x < n z → is_above x z ≡ true
  above x z h = elim (leb_tells (suc (n x)) (n z)) [ inl t ↦ t.0 | inr t ↦ absurd (omega (arith, t.1)) ]

  itself : (x : A) → is_above x x ≡ false
  itself x = elim (leb_tells (suc (n x)) (n x)) [ inl t ↦ absurd (omega (arith, t.1)) | inr t ↦ t.0 ]

  all_above : (x : A) (xs : List A) → All (λ z. n x < n z) xs → All (λ z. is_above x z ≡ true) xs
  all_above x xs h k d below = above x (get_or xs k d) (h k d below)

  -- what isn't above, and then what is
  parted : (x : A) (ys : List A) → NeverFalls ys → ys ≡ filter (is_no_higher x) ys ++ filter (is_above x) ys
  parted x [] up = refl
  parted x (y ∷ ys) up = elim (leb_tells (suc (n x)) (n y)) [
    | inl t ↦ (
        let later = pair_first (λ y z. n y ≤ n z) y ys up in
        let all : All (λ z. is_above x z ≡ true) ys = λ k d below. above x (get_or ys k d) (omega (arith, t.1, later k d below)) in
        sym (ap₂ (λ b l. cond (not b) (y ∷ l) l ++ cond b (y ∷ filter (is_above x) ys) (filter (is_above x) ys)) t.0
        (none_pass (is_no_higher x) ys (λ k d below. ap not (all k d below)))
        ∙ ap (λ l. y ∷ l) (all_pass (is_above x) ys all)))
    | inr t ↦ (
        let P : Bool → Type 0 = λ b. y ∷ ys ≡ cond (not b) (y ∷ filter (is_no_higher x) ys) (filter (is_no_higher x) ys)
        ++ cond b (y ∷ filter (is_above x) ys) (filter (is_above x) ys) in
        subst P (sym t.0) (ap (λ l. y ∷ l) (parted x ys (pair_rest (λ y z. n y ≤ n z) y ys up))))
  ]

  -- a list whose numbers rise has one order in which none comes before a lower one
  pub one_order : (xs ys : List A) → Rises xs → IsPermutation xs ys → NeverFalls ys → ys ≡ xs
  one_order [] [] rises h up = refl
  one_order [] (y ∷ ys) rises h up = absurd (omega (arith, length_permutation _ _ h))
  one_order (x ∷ xs) ys rises h up =
      let higher = all_above x xs (pair_first (λ x y. n x < n y) x xs rises) in
      let first : filter (is_no_higher x) (x ∷ xs) ≡ x ∷ [] =
      ap (λ b. cond (not b) (x ∷ filter (is_no_higher x) xs) (filter (is_no_higher x) xs)) (itself x)
      ∙ ap (λ l. x ∷ l) (none_pass (is_no_higher x) xs (λ k d below. ap not (higher k d below))) in
      let later : filter (is_above x) (x ∷ xs) ≡ xs =
      ap (λ b. cond b (x ∷ filter (is_above x) xs) (filter (is_above x) xs)) (itself x) ∙ all_pass (is_above x) xs higher in
      let head = one x _ (subst (λ l. IsPermutation l (filter (is_no_higher x) ys)) first (filter_permuted (is_no_higher x) _ _ h)) in
      let tail =
      one_order xs _ (pair_rest (λ x y. n x < n y) x xs rises)
      (subst (λ l. IsPermutation l (filter (is_above x) ys)) later (filter_permuted (is_above x) _ _ h))
      (AllPairs-filter (λ y z. n y ≤ n z) (is_above x) ys up) in
      parted x ys up ∙ ap₂ ◌++◌ head tail
