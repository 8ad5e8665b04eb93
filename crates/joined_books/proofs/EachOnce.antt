-- Where no place has more than it may, and there are as many as there may be, each place has as many as it may.
use Rattle.std.proofs.Common.{◌≡◌, ℕ, zero, suc, ◌+◌, ◌<◌, ◌≤◌, Bool, false, List, [], ◌∷◌, ◌++◌, ◌==◌, inl}
use Rattle.std.proofs.Common.{inr, if◌then◌else◌, refl, sym, ap, ◌∙◌, subst, arith, length, slice_index_or}
use Rattle.std.specs.List.{count_by}
use Rattle.std.proofs.lemmas.Bool.Decides.{eqb_tells, leb_tells}
use Rattle.std.proofs.lemmas.List.Sums.{sum_by-append, sum_by-cons}

abbrev pub bit : Bool → ℕ
bit b = if b then 1 else 0

pub count_cons : {X : Type 0} (p : X → Bool) (x : X) (xs : List X) → count_by p (x ∷ xs) ≡ bit (p x) + count_by p xs
count_cons p x xs = sum_by-cons (λ y. bit (p y)) x xs

pub count_append : {X : Type 0} (p : X → Bool) (xs ys : List X) → count_by p (xs ++ ys) ≡ count_by p xs + count_by p ys
count_append p xs ys = sum_by-append (λ y. bit (p y)) xs ys

-- ---- sums below a bound

abbrev total : (ℕ → ℕ) → ℕ → ℕ
total f zero = 0
total f (suc n) = total f n + f n

total_same : (f g : ℕ → ℕ) (n : ℕ) → ((p : ℕ) → f p ≡ g p) → total f n ≡ total g n
total_same f g zero h = refl
total_same f g (suc n) h = let a = total_same f g n h in let b = h n in omega arith

total_plus : (f g : ℕ → ℕ) (n : ℕ) → total (λ p. f p + g p) n ≡ total f n + total g n
total_plus f g zero = refl
total_plus f g (suc n) = let a = total_plus f g n in omega arith

total_none : (n : ℕ) → total (λ p. 0) n ≡ 0
total_none zero = refl
total_none (suc n) = let a = total_none n in omega arith

total_first : (f : ℕ → ℕ) (n : ℕ) → total f (suc n) ≡ f 0 + total (λ p. f (suc p)) n
total_first f zero = omega arith
total_first f (suc n) = let a = total_first f n in omega arith

total_le : (f g : ℕ → ℕ) (n : ℕ) → ((p : ℕ) → p < n → f p ≤ g p) → total f n ≤ total g n
total_le f g zero h = omega arith
total_le f g (suc n) h = let a = total_le f g n (λ p below. h p (omega arith)) in let b = h n (omega arith) in omega arith

pointwise : (f g : ℕ → ℕ) (n : ℕ) → ((p : ℕ) → p < n → f p ≤ g p) → total f n ≡ total g n → (p : ℕ) → p < n → f p ≡ g p
pointwise f g zero h is p below = absurd (omega arith)
pointwise f g (suc n) h is p below =
    let rest = total_le f g n (λ q lt. h q (omega arith)) in
    let here = h n (omega arith) in
    elim (eqb_tells p n) [
      | inl e ↦ (let P : ℕ → Type 0 = λ q. f q ≡ g q in let own : f n ≡ g n = omega arith in subst P (sym e.1) own)
      | inr e ↦ pointwise f g n (λ q lt. h q (omega arith)) (omega arith) p (let a = e.1 in omega arith)
    ]

-- ---- one place

one_at : (x : ℕ) (n : ℕ) → n ≤ x → total (λ p. bit (x == p)) n ≡ 0
one_at x zero h = refl
one_at x (suc n) h =
    let rest = one_at x n (omega arith) in
    let P : Bool → Type 0 = λ b. total (λ p. bit (x == p)) n + bit b ≡ 0 in
    elim (eqb_tells x n) [ inl e ↦ absurd (let a = e.1 in omega arith) | inr e ↦ subst P (sym e.0) (omega arith) ]

one_below : (x : ℕ) (n : ℕ) → x < n → total (λ p. bit (x == p)) n ≡ 1
one_below x zero h = absurd (omega arith)
one_below x (suc n) h =
    let P : Bool → Type 0 = λ b. total (λ p. bit (x == p)) n + bit b ≡ 1 in
    elim (eqb_tells x n) [
      | inl e ↦ subst P (sym e.0) (let a = e.1 in let none = one_at x n (omega arith) in omega arith)
      | inr e ↦ subst P (sym e.0) (let a = e.1 in let one = one_below x n (omega arith) in omega arith)
    ]

-- ---- bits

bits_total : (bs : List Bool) → total (λ p. bit (slice_index_or bs p false)) (length bs) ≡ count_by (λ b. b) bs
bits_total [] = refl
bits_total (b ∷ bs) = total_first (λ p. bit (slice_index_or (b ∷ bs) p false)) (length bs)
    ∙ (let a = bits_total bs in let c = count_cons (λ (x : Bool). x) b bs in omega arith)

past : (bs : List Bool) (p : ℕ) → length bs ≤ p → slice_index_or bs p false ≡ false
past [] p h = refl
past (b ∷ bs) zero h = absurd (omega arith)
past (b ∷ bs) (suc p) h = past bs p (omega arith)

-- ---- things at their places

module _ {X : Type 0} (place : X → ℕ) where
  abbrev pub times : ℕ → List X → ℕ
  times at xs = count_by (λ x. place x == at) xs

  named : (x : X) (xs : List X) → 0 < times (place x) (x ∷ xs)
  named x xs =
      let c = count_cons (λ y. place y == place x) x xs in
      elim (eqb_tells (place x) (place x)) [ inl e ↦ (let b = ap bit e.0 in omega arith) | inr e ↦ absurd (e.1 refl) ]

  more : (p : ℕ) (x : X) (xs : List X) → 0 < times p xs → 0 < times p (x ∷ xs)
  more p x xs some = let c = count_cons (λ y. place y == p) x xs in omega arith

  times_total : (xs : List X) (n : ℕ) → ((p : ℕ) → 0 < times p xs → p < n) → total (λ p. times p xs) n ≡ length xs
  times_total [] n within = total_none n
  times_total (x ∷ xs) n within =
      let here : place x < n = within (place x) (named x xs) in
      let rest = times_total xs n (λ p some. within p (more p x xs some)) in
      total_same (λ p. times p (x ∷ xs)) (λ p. bit (place x == p) + times p xs) n (λ p. count_cons (λ y. place y == p) x xs)
      ∙ total_plus (λ p. bit (place x == p)) (λ p. times p xs) n ∙ (let one = one_below (place x) n here in omega arith)

  pub each_once : (may : List Bool) (xs : List X) → ((p : ℕ) → times p xs ≤ bit (slice_index_or may p false))
      → length xs ≡ count_by (λ b. b) may
      → (p : ℕ) → times p xs ≡ bit (slice_index_or may p false)
  each_once may xs most as_many p =
      let n = length may in
      let within : (q : ℕ) → 0 < times q xs → q < n = λ q some.
      elim (leb_tells n q) [
        | inl h ↦ absurd (let m = most q in let e = ap bit (past may q h.1) in omega arith)
        | inr h ↦ (let a = h.1 in omega arith)
      ] in
      let same : total (λ q. times q xs) n ≡ total (λ q. bit (slice_index_or may q false)) n =
      times_total xs n within ∙ as_many ∙ sym (bits_total may) in
      elim (leb_tells n p) [
        | inl h ↦ (let m = most p in let e = ap bit (past may p h.1) in omega arith)
        | inr h ↦ pointwise (λ q. times q xs) (λ q. bit (slice_index_or may q false)) n (λ q below. most q) same p
            (let a = h.1 in omega arith)
      ]
