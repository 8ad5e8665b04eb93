-- Lists that go together, element by element.
use Rattle.std.proofs.Common.{◌≡◌, ℕ, zero, suc, ◌<◌, Some, List, [], ◌∷◌, get_or, length, map}
use Rattle.std.proofs.Common.{refl, sym, ap, ◌∙◌, subst, arith, slice_get, slice_index_or}
use Rattle.std.specs.List.{AllZip}

-- a list chosen for another, with what holds of each two
pub record Chosen {X Y : Type 0} (Q : ℕ → X → Y → Type 0) (xs : List X) : Type 0 where
  pub ys : List Y
  pub lens : length ys ≡ length xs
  pub each : (k : ℕ) (d : X) (e : Y) → k < length xs → Q k (get_or xs k d) (get_or ys k e)

pub choose : {X Y : Type 0} (Q : ℕ → X → Y → Type 0) (xs : List X) → ((k : ℕ) (d : X) → k < length xs → (y : Y) × Q k (get_or xs k d) y)
    → Chosen Q xs
choose {X} {Y} Q [] h = record { ys = []; lens = refl; each = λ k d e below. absurd (omega arith) }
choose {X} {Y} Q (x ∷ xs) h =
    let first = h 0 x (omega arith) in
    let rest = choose (λ k. Q (suc k)) xs (λ k d below. h (suc k) d (omega arith)) in
    record {
      ys = first.0 ∷ rest.ys;
      lens = ap suc rest.lens;
      each = by_place first.0 first.1 rest;
    }
  where
    by_place : (y : Y) → Q 0 x y → (rest : Chosen (λ k. Q (suc k)) xs) → (k : ℕ) (d : X) (e : Y) → k < suc (length xs)
        → Q k (get_or (x ∷ xs) k d) (get_or (y ∷ rest.ys) k e)
    by_place y q rest zero d e below = q
    by_place y q rest (suc k) d e below = rest.each k d e (omega arith)

-- the element that goes with one that stands somewhere
pub record Beside {X Y : Type 0} (R : X → Y → Type 0) (xs : List X) (place : ℕ) (y : Y) : Type 0 where
  pub x : X
  pub there : slice_get xs place ≡ Some x
  pub goes : R x y

pub beside : {X Y : Type 0} (R : X → Y → Type 0) (xs : List X) (ys : List Y) (place : ℕ) (y : Y)
    → AllZip R xs ys → slice_get ys place ≡ Some y → Beside R xs place y
beside R [] [] place y h is = absurd (cc)
beside R [] (z ∷ ys) place y h is = absurd h
beside R (x ∷ xs) [] place y h is = absurd h
beside R (x ∷ xs) (z ∷ ys) zero y h is =
    let e : z ≡ y = cc in record { x = x; there = refl; goes = subst (λ w. R x w) e h.0 }
beside R (x ∷ xs) (z ∷ ys) (suc place) y h is =
    let rest = beside R xs ys place y h.1 is in record { x = rest.x; there = rest.there; goes = rest.goes }

pub zip_weaker : {X Y : Type 0} (R S : X → Y → Type 0) → ((x : X) (y : Y) → R x y → S x y) → (xs : List X) (ys : List Y) → AllZip R xs ys
    → AllZip S xs ys
zip_weaker R S weaker [] [] h = tt
zip_weaker R S weaker [] (y ∷ ys) h = h
zip_weaker R S weaker (x ∷ xs) [] h = h
zip_weaker R S weaker (x ∷ xs) (y ∷ ys) h = (weaker x y h.0, zip_weaker R S weaker xs ys h.1)

-- the same of both, where it is the same of each two
pub zip_maps : {X Y Z : Type 0} (R : X → Y → Type 0) (f : X → Z) (g : Y → Z) → ((x : X) (y : Y) → R x y → g y ≡ f x)
    → (xs : List X) (ys : List Y) → AllZip R xs ys
    → map f xs ≡ map g ys
zip_maps R f g same [] [] h = refl
zip_maps R f g same [] (y ∷ ys) h = absurd h
zip_maps R f g same (x ∷ xs) [] h = absurd h
zip_maps R f g same (x ∷ xs) (y ∷ ys) h =
    ap (λ z. z ∷ map f xs) (sym (same x y h.0)) ∙ ap (λ l. g y ∷ l) (zip_maps R f g same xs ys h.1)

-- what is at a place, where it is anywhere
pub part_of : {X Y : Type 0} (f : X → Y) (xs : List X) (k : ℕ) (d : X) (e : Y) → k < length xs
    → slice_index_or (map f xs) k e ≡ f (get_or xs k d)
part_of f [] k d e below = absurd (omega arith)
part_of f (x ∷ xs) zero d e below = refl
part_of f (x ∷ xs) (suc k) d e below = part_of f xs k d e (omega arith)

pub part_beyond : {X Y : Type 0} (f : X → Y) (xs : List X) (k : ℕ) (e : Y) → length xs < suc k → slice_index_or (map f xs) k e ≡ e
part_beyond f [] k e beyond = refl
part_beyond f (x ∷ xs) zero e beyond = absurd (omega arith)
part_beyond f (x ∷ xs) (suc k) e beyond = part_beyond f xs k e (omega arith)

pub past : {X : Type 0} (xs : List X) (k : ℕ) (d : X) → length xs < suc k → slice_index_or xs k d ≡ d
past [] k d beyond = refl
past (x ∷ xs) zero d beyond = absurd (omega arith)
past (x ∷ xs) (suc k) d beyond = past xs k d (omega arith)
