-- Numbers that rise in an order: one comes among them, one goes, and the first that isn't less.
use Rattle.std.proofs.Common.{◌≡◌, ◌≢◌, ◌≤◌, ℕ, ◌==◌, Bool, true, false, cond, not, ◌&&◌, ◌||◌, List, [], ◌∷◌, Option, None, Some}
use Rattle.std.proofs.Common.{◌⊎◌, inl, inr, refl, sym, ap, subst, ◌∙◌}
use Rattle.std.proofs.lemmas.Bool.{eqb-true, eq-eqb}
use Rattle.std.specs.declared.cmp.Ordering.{Ordering}
use Rattle.std.specs.declared.cmp.Ordering.TheVariants.{Less, Equal, Greater}
use Rattle.std.specs.Ordering.{is_lt, is_eq, ordering_index, ordering_reverse}
use Rattle.std.specs.List.{last_or}
use Rattle.std.specs.Cmp.{IsTotalOrder}
use Rattle.std.proofs.lemmas.Cmp.{tied_itself}
use Rattle.sorted_map.specs.Indexed.{NoneLower, IsParted, first_not_less, with_slot, without_tied}
use Rattle.sorted_map.proofs.Orderings.{equal_of, less_of}
use Rattle.monitor_core.specs.Slots.{Each, Rises, has}
use Rattle.monitor_core.proofs.Lists.{each_weaker}

or_true : (b : Bool) → b || true ≡ true
or_true true = refl
or_true false = refl

-- ---- what a list has

pub each_has : (P : ℕ → Type 0) (xs : List ℕ) → ((x : ℕ) → has x xs ≡ true → P x) → Each P xs
each_has P [] h = tt
each_has P (x ∷ xs) h = (h x (ap (λ b. b || has x xs) (eq-eqb x x refl)), each_has P xs (λ y k. h y (ap (λ b. (y == x) || b) k ∙ or_true (y == x))))

pub has_each : (P : ℕ → Type 0) (xs : List ℕ) (y : ℕ) → Each P xs → has y xs ≡ true → P y
has_each P [] y h k = cc
has_each P (x ∷ xs) y h k = go (y == x) refl k (has_each P xs y h.1)
  where
    go : (b : Bool) → (y == x) ≡ b → b || has y xs ≡ true → (has y xs ≡ true → P y) → P y
    go true e t more = subst P (sym (eqb-true y x e)) h.0
    go false e t more = more t

pub unequal : (x y : ℕ) → x ≢ y → (x == y) ≡ false
unequal x y n = go (x == y) refl
  where
    go : (b : Bool) → (x == y) ≡ b → b ≡ false
    go true e = absurd (n (eqb-true x y e))
    go false e = refl

-- ---- in parts

pub parted : (R : ℕ → ℕ → Type 0) (order : ℕ → Ordering)
    → ((x y : ℕ) → R x y → ordering_index (order x) ≤ ordering_index (order y)) → (xs : List ℕ) → Rises R xs → IsParted order xs
parted R order f [] h = tt
parted R order f (x ∷ xs) h = (lower xs h.0, parted R order f xs h.1)
  where
    lower : (ys : List ℕ) → Each (R x) ys → NoneLower order x ys
    lower [] k = tt
    lower (y ∷ ys) k = (f x y k.0, lower ys k.1)

-- ---- the first that isn't less

abbrev pub IsFirstIn : (ℕ → ℕ → Type 0) → (ℕ → Ordering) → List ℕ → Option ℕ → Type 0
IsFirstIn R order xs None = Each (λ x. is_lt (order x) ≡ true) xs
IsFirstIn R order xs (Some found) = (has found xs ≡ true) × (is_lt (order found) ≡ false)
    × Each (λ x. is_lt (order x) ≡ false → (x ≡ found) ⊎ R found x) xs

pub first_in : (R : ℕ → ℕ → Type 0) (order : ℕ → Ordering) (xs : List ℕ) → Rises R xs → IsFirstIn R order xs (first_not_less order xs)
first_in R order [] h = tt
first_in R order (x ∷ xs) h = go (is_lt (order x)) refl (first_in R order xs h.1)
  where
    later : is_lt (order x) ≡ true → (o : Option ℕ) → IsFirstIn R order xs o → IsFirstIn R order (x ∷ xs) o
    later e None k = (e, k)
    later e (Some found) k = (
      ap (λ b. (found == x) || b) k.0 ∙ or_true (found == x),
      k.1,
      ((λ n. let c : false ≡ true = sym n ∙ e in cc), k.2),
    )

    go : (b : Bool) → is_lt (order x) ≡ b → IsFirstIn R order xs (first_not_less order xs)
        → IsFirstIn R order (x ∷ xs) (cond b (first_not_less order xs) (Some x))
    go true e more = later e _ more
    go false e more = (
      ap (λ b. b || has x xs) (eq-eqb x x refl),
      e,
      ((λ n. inl refl), each_weaker (R x) (λ y. is_lt (order y) ≡ false → (y ≡ x) ⊎ R x y) (λ y k n. inr k) xs h.0),
    )

-- ---- the last

abbrev final : ℕ → List ℕ → ℕ
final x [] = x
final x (y ∷ ys) = final y ys

final_is : (x : ℕ) (xs : List ℕ) → last_or (Some x) xs ≡ Some (final x xs)
final_is x [] = refl
final_is x (y ∷ ys) = final_is y ys

final_has : (x : ℕ) (xs : List ℕ) → has (final x xs) (x ∷ xs) ≡ true
final_has x [] = ap (λ b. b || false) (eq-eqb x x refl)
final_has x (y ∷ ys) = ap (λ b. (final y ys == x) || b) (final_has y ys) ∙ or_true (final y ys == x)

abbrev IsUpTo : (ℕ → ℕ → Type 0) → ℕ → ℕ → Type 0
IsUpTo R last x = (x ≡ last) ⊎ R x last

final_ends : (R : ℕ → ℕ → Type 0) (x : ℕ) (xs : List ℕ) → Rises R (x ∷ xs) → Each (IsUpTo R (final x xs)) (x ∷ xs)
final_ends R x [] h = (inl refl, tt)
final_ends R x (y ∷ ys) h = (inr (has_each (R x) (y ∷ ys) (final y ys) h.0 (final_has y ys)), final_ends R y ys h.1)

abbrev pub IsLastIn : (ℕ → ℕ → Type 0) → List ℕ → Option ℕ → Type 0
IsLastIn R xs None = xs ≡ []
IsLastIn R xs (Some last) = (has last xs ≡ true) × Each (λ x. (x ≡ last) ⊎ R x last) xs

pub last_in : (R : ℕ → ℕ → Type 0) (xs : List ℕ) → Rises R xs → IsLastIn R xs (last_or None xs)
last_in R [] h = refl
last_in R (x ∷ xs) h = subst (IsLastIn R (x ∷ xs)) (sym (final_is x xs)) (final_has x xs, final_ends R x xs h)

-- ---- one comes, and one goes

module _ {R : ℕ → ℕ → Ordering} (o : IsTotalOrder R) (slot : ℕ) where
  abbrev order : ℕ → Ordering
  order x = R x slot

  turned : (x : ℕ) → R x slot ≢ Equal → is_lt (R x slot) ≡ false → R slot x ≡ Less
  turned x n l = go (R x slot) refl
    where
      go : (c : Ordering) → R x slot ≡ c → R slot x ≡ Less
      go Less e = let k : true ≡ false = sym (ap is_lt e) ∙ l in cc
      go Equal e = absurd (n e)
      go Greater e = o.antisymm slot x ∙ ap ordering_reverse e

  each_with : (P : ℕ → Type 0) (xs : List ℕ) → P slot → Each P xs → Each P (with_slot order slot xs)
  each_with P [] p h = (p, tt)
  each_with P (x ∷ xs) p h = go (is_lt (order x)) (each_with P xs p h.1)
    where
      go : (b : Bool) → Each P (with_slot order slot xs) → Each P (cond b (x ∷ with_slot order slot xs) (slot ∷ x ∷ xs))
      go true more = (h.0, more)
      go false more = (p, h)

  pub rises_with : (xs : List ℕ) → Rises (λ x y. R x y ≡ Less) xs → Each (λ x. R x slot ≢ Equal) xs
      → Rises (λ x y. R x y ≡ Less) (with_slot order slot xs)
  rises_with [] h n = (tt, tt)
  rises_with (x ∷ xs) h n = go (is_lt (order x)) refl (rises_with xs h.1 n.1)
    where
      go : (b : Bool) → is_lt (order x) ≡ b → Rises (λ x y. R x y ≡ Less) (with_slot order slot xs)
          → Rises (λ x y. R x y ≡ Less) (cond b (x ∷ with_slot order slot xs) (slot ∷ x ∷ xs))
      go true e more = (each_with (λ y. R x y ≡ Less) xs (less_of _ e) h.0, more)
      go false e more =
          let l = turned x n.0 e in
          ((l, each_weaker (λ y. R x y ≡ Less) (λ y. R slot y ≡ Less) (λ y k. o.trans slot x y l k) xs h.0), h)

  either_way : (a b c : Bool) → a || (b || c) ≡ b || (a || c)
  either_way true true c = refl
  either_way true false c = refl
  either_way false true c = refl
  either_way false false c = refl

  pub has_with : (xs : List ℕ) (y : ℕ) → has y (with_slot order slot xs) ≡ (y == slot) || has y xs
  has_with [] y = refl
  has_with (x ∷ xs) y = go (is_lt (order x)) (has_with xs y)
    where
      go : (b : Bool) → has y (with_slot order slot xs) ≡ (y == slot) || has y xs
          → has y (cond b (x ∷ with_slot order slot xs) (slot ∷ x ∷ xs)) ≡ (y == slot) || ((y == x) || has y xs)
      go true more = ap (λ b. (y == x) || b) more ∙ either_way (y == x) (y == slot) (has y xs)
      go false more = refl

  each_without : (P : ℕ → Type 0) (xs : List ℕ) → Each P xs → Each P (without_tied order xs)
  each_without P [] h = tt
  each_without P (x ∷ xs) h = go (is_eq (order x)) (each_without P xs h.1)
    where
      go : (b : Bool) → Each P (without_tied order xs) → Each P (cond b xs (x ∷ without_tied order xs))
      go true more = h.1
      go false more = (h.0, more)

  pub rises_without : (xs : List ℕ) → Rises (λ x y. R x y ≡ Less) xs → Rises (λ x y. R x y ≡ Less) (without_tied order xs)
  rises_without [] h = tt
  rises_without (x ∷ xs) h = go (is_eq (order x)) (rises_without xs h.1)
    where
      go : (b : Bool) → Rises (λ x y. R x y ≡ Less) (without_tied order xs)
          → Rises (λ x y. R x y ≡ Less) (cond b xs (x ∷ without_tied order xs))
      go true more = h.1
      go false more = (each_without (λ y. R x y ≡ Less) xs h.0, more)

  only_once : (xs : List ℕ) → Each (λ y. R slot y ≡ Less) xs → has slot xs ≡ false
  only_once xs h = go (has slot xs) refl
    where
      go : (b : Bool) → has slot xs ≡ b → b ≡ false
      go false e = refl
      go true e =
          let l = has_each (λ y. R slot y ≡ Less) xs slot h e in
          let k = tied_itself o slot in
          let c : Less ≡ Equal = sym l ∙ k in
          cc

  pub has_without : (xs : List ℕ) → Rises (λ x y. R x y ≡ Less) xs → Each (λ x. R x slot ≡ Equal → x ≡ slot) xs
      → (y : ℕ) → has y (without_tied order xs) ≡ has y xs && not (y == slot)
  has_without [] h n y = refl
  has_without (x ∷ xs) h n y = go (is_eq (order x)) refl (has_without xs h.1 n.1 y)
    where
      here : x ≡ slot → (b : Bool) → (y == slot) ≡ b → has y xs ≡ ((y == x) || has y xs) && not (y == slot)
      here i true e =
          ap (λ z. has z xs) (eqb-true y slot e)
          ∙ only_once xs (subst (λ z. Each (λ y. R z y ≡ Less) xs) i h.0)
          ∙ sym (ap (λ b. ((y == x) || has y xs) && not b) e ∙ and_false ((y == x) || has y xs))
        where
          and_false : (b : Bool) → b && false ≡ false
          and_false true = refl
          and_false false = refl
      here i false e =
          sym (ap (λ b. ((y == x) || has y xs) && not b) e ∙ and_true ((y == x) || has y xs)
          ∙ ap (λ z. (y == z) || has y xs) i ∙ ap (λ b. b || has y xs) e)
        where
          and_true : (b : Bool) → b && true ≡ b
          and_true true = refl
          and_true false = refl

      there : x ≢ slot → (b : Bool) → (y == x) ≡ b → has y (without_tied order xs) ≡ has y xs && not (y == slot)
          → (y == x) || has y (without_tied order xs) ≡ ((y == x) || has y xs) && not (y == slot)
      there d true e k =
          ap (λ b. b || has y (without_tied order xs)) e
          ∙ sym (ap (λ b. (b || has y xs) && not (y == slot)) e
          ∙ ap (λ z. not (z == slot)) (eqb-true y x e) ∙ ap not (unequal x slot d))
      there d false e k =
          ap (λ b. b || has y (without_tied order xs)) e ∙ k
          ∙ sym (ap (λ b. (b || has y xs) && not (y == slot)) e)

      go : (b : Bool) → is_eq (order x) ≡ b → has y (without_tied order xs) ≡ has y xs && not (y == slot)
          → has y (cond b xs (x ∷ without_tied order xs)) ≡ ((y == x) || has y xs) && not (y == slot)
      go true e more = here (n.0 (equal_of _ e)) (y == slot) refl
      go false e more =
          there (λ i. let k : is_eq (order x) ≡ true = ap (λ z. is_eq (R z slot)) i ∙ ap is_eq (tied_itself o slot) in
          let c : false ≡ true = sym e ∙ k in cc) (y == x) refl more
