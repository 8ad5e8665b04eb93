-- The outlet of a connection, by its place among all.
use Rattle.std.proofs.Common.{◌≡◌, ℕ, zero, suc, ◌+◌, ◌<◌, Bool, true, false, cond, Option, None, Some}
use Rattle.std.proofs.Common.{List, [], ◌∷◌, ◌++◌, length, get_or, set, map, refl, sym, ap, ◌∙◌, subst, arith}
use Rattle.std.proofs.lemmas.Iterator.Adapters.{position_from-zero}
use Rattle.std.proofs.lemmas.Option.{same_Some}
use Rattle.std.specs.List.{position, position_from}
use Rattle.dist_model.proofs.Keys.{same_trunk, same_trunk_refl, same_trunk_true}
use Rattle.erl_names.specs.declared.trunk.TrunkId.{TrunkId}
use Rattle.node_lock.specs.Passing.{with_piece}
use Rattle.node_lock.specs.Standing.{AreApart, outlet_of}
use Rattle.node_lock.specs.declared.outlet.Outlet.{Outlet}

abbrev at : TrunkId → Outlet → Bool
at trunk outlet = same_trunk trunk outlet.port.trunk

-- the first of that connection
abbrev pub IsFirst : TrunkId → ℕ → List Outlet → Type 0
IsFirst trunk k [] = ⊥
IsFirst trunk zero (o ∷ os) = at trunk o ≡ true
IsFirst trunk (suc k) (o ∷ os) = (at trunk o ≡ false) × IsFirst trunk k os

pub record Found (trunk : TrunkId) (i j : ℕ) (os : List Outlet) : Type 0 where
  pub k : ℕ
  pub is : j ≡ i + k
  pub first : IsFirst trunk k os

found : (trunk : TrunkId) (i j : ℕ) (os : List Outlet) → position_from (at trunk) i os ≡ Some j → Found trunk i j os
found trunk i j [] h = absurd (let no : ◌≡◌ {A = Option ℕ} None (Some j) = h in cc)
found trunk i j (o ∷ os) h = by_test (found trunk (i + 1) j os) (at trunk o) refl h
  where
    by_test : (position_from (at trunk) (i + 1) os ≡ Some j → Found trunk (i + 1) j os)
        → (b : Bool) → at trunk o ≡ b → cond b (Some i) (position_from (at trunk) (i + 1) os) ≡ Some j → Found trunk i j (o ∷ os)
    by_test later true t e = let s = same_Some i j e in record { k = 0; is = omega (arith, s); first = t }
    by_test later false t e = let f = later e in record { k = suc f.k; is = omega (arith, f.is); first = (t, f.first) }

pub is_first : (trunk : TrunkId) (j : ℕ) (os : List Outlet) → position (at trunk) os ≡ Some j → IsFirst trunk j os
is_first trunk j os h =
    let f = found trunk 0 j os (sym (position_from-zero (at trunk) os) ∙ h) in
    subst (λ n. IsFirst trunk n os) (let e : f.k ≡ j = omega (arith, f.is) in e) f.first

pub first_below : (trunk : TrunkId) (k : ℕ) (os : List Outlet) → IsFirst trunk k os → k < length os
first_below trunk k [] h = absurd h
first_below trunk zero (o ∷ os) h = omega arith
first_below trunk (suc k) (o ∷ os) h = omega (arith, first_below trunk k os h.1)

pub first_is : (trunk : TrunkId) (k : ℕ) (os : List Outlet) (d : Outlet) → IsFirst trunk k os → outlet_of trunk os ≡ Some (get_or os k d)
first_is trunk k [] d h = absurd h
first_is trunk zero (o ∷ os) d h = ap (λ b. cond b (Some o) (outlet_of trunk os)) h
first_is trunk (suc k) (o ∷ os) d h = ap (λ b. cond b (Some o) (outlet_of trunk os)) h.0 ∙ first_is trunk k os d h.1

pub first_trunk : (trunk : TrunkId) (k : ℕ) (os : List Outlet) (d : Outlet) → IsFirst trunk k os → (get_or os k d).port.trunk ≡ trunk
first_trunk trunk k [] d h = absurd h
first_trunk trunk zero (o ∷ os) d h = sym (same_trunk_true trunk o.port.trunk h)
first_trunk trunk (suc k) (o ∷ os) d h = first_trunk trunk k os d h.1

nowhere : (trunk : TrunkId) (i : ℕ) (os : List Outlet) → position_from (at trunk) i os ≡ None → outlet_of trunk os ≡ None
nowhere trunk i [] h = refl
nowhere trunk i (o ∷ os) h = by_test (nowhere trunk (i + 1) os) (at trunk o) refl h
  where
    by_test : (position_from (at trunk) (i + 1) os ≡ None → outlet_of trunk os ≡ None)
        → (b : Bool) → at trunk o ≡ b → cond b (Some i) (position_from (at trunk) (i + 1) os) ≡ None
        → cond (at trunk o) (Some o) (outlet_of trunk os) ≡ None
    by_test later true t e = absurd (let no : ◌≡◌ {A = Option ℕ} (Some i) None = e in cc)
    by_test later false t e = ap (λ b. cond b (Some o) (outlet_of trunk os)) t ∙ later e

pub none_is : (trunk : TrunkId) (os : List Outlet) → position (at trunk) os ≡ None → outlet_of trunk os ≡ None
none_is trunk os h = nowhere trunk 0 os (sym (position_from-zero (at trunk) os) ∙ h)

-- ---- one of them changes, and stays that of its connection

pub outlet_set : (u trunk : TrunkId) (k : ℕ) (os : List Outlet) (new : Outlet) → IsFirst trunk k os → new.port.trunk ≡ trunk
    → outlet_of u (set os k new) ≡ cond (same_trunk u trunk) (Some new) (outlet_of u os)
outlet_set u trunk k [] new h n = absurd h
outlet_set u trunk zero (o ∷ os) new h n = go (same_trunk u trunk) refl
  where
    is : o.port.trunk ≡ trunk
    is = sym (same_trunk_true trunk o.port.trunk h)

    go : (b : Bool) → same_trunk u trunk ≡ b
        → cond (at u new) (Some new) (outlet_of u os) ≡ cond b (Some new) (cond (at u o) (Some o) (outlet_of u os))
    go true t = ap (λ c. cond c (Some new) (outlet_of u os)) (ap (λ x. same_trunk u x) n ∙ t)
    go false t =
        ap (λ c. cond c (Some new) (outlet_of u os)) (ap (λ x. same_trunk u x) n ∙ t)
        ∙ ap (λ c. cond c (Some o) (outlet_of u os)) (sym (ap (λ x. same_trunk u x) is ∙ t))
outlet_set u trunk (suc k) (o ∷ os) new h n = go (outlet_set u trunk k os new h.1 n) (at u o) refl
  where
    -- that connection is another
    other : at u o ≡ true → (c : Bool) → same_trunk u trunk ≡ c → c ≡ false
    other t true s =
        let no : true ≡ false = sym t ∙ ap (λ x. at x o) (same_trunk_true u trunk s) ∙ h.0 in cc
    other t false s = refl

    go : outlet_of u (set os k new) ≡ cond (same_trunk u trunk) (Some new) (outlet_of u os) → (b : Bool) → at u o ≡ b
        → cond (at u o) (Some o) (outlet_of u (set os k new))
        ≡ cond (same_trunk u trunk) (Some new) (cond (at u o) (Some o) (outlet_of u os))
    go rest true t =
        ap (λ b. cond b (Some o) (outlet_of u (set os k new))) t
        ∙ ap (λ c. cond c (Some new) (Some o)) (sym (other t (same_trunk u trunk) refl))
        ∙ ap (λ b. cond (same_trunk u trunk) (Some new) (cond b (Some o) (outlet_of u os))) (sym t)
    go rest false t =
        ap (λ b. cond b (Some o) (outlet_of u (set os k new))) t ∙ rest
        ∙ ap (λ b. cond (same_trunk u trunk) (Some new) (cond b (Some o) (outlet_of u os))) (sym t)

-- ---- one more, of a connection that has none

pub outlet_push : (u : TrunkId) (os : List Outlet) (new : Outlet) → outlet_of new.port.trunk os ≡ None
    → outlet_of u (os ++ new ∷ []) ≡ cond (same_trunk u new.port.trunk) (Some new) (outlet_of u os)
outlet_push u [] new none = refl
outlet_push u (o ∷ os) new none = go (outlet_push u os new) (at u o) refl
  where
    here : (b : Bool) → at new.port.trunk o ≡ b → (b ≡ false) × (outlet_of new.port.trunk os ≡ None)
    here true t =
        absurd
        (let no : ◌≡◌ {A = Option Outlet} (Some o) None = ap (λ b. cond b (Some o) (outlet_of new.port.trunk os)) (sym t) ∙ none in cc)
    here false t = (refl, ap (λ b. cond b (Some o) (outlet_of new.port.trunk os)) (sym t) ∙ none)

    apart : at new.port.trunk o ≡ false
    apart = (here (at new.port.trunk o) refl).0

    other : at u o ≡ true → (c : Bool) → same_trunk u new.port.trunk ≡ c → c ≡ false
    other t true s =
        let no : true ≡ false = sym t ∙ ap (λ x. at x o) (same_trunk_true u new.port.trunk s) ∙ apart in cc
    other t false s = refl

    go : (outlet_of new.port.trunk os ≡ None → outlet_of u (os ++ new ∷ []) ≡ cond (same_trunk u new.port.trunk) (Some new)
        (outlet_of u os)) → (b : Bool) → at u o ≡ b → cond (at u o) (Some o) (outlet_of u
        (os ++ new ∷ [])) ≡ cond (same_trunk u new.port.trunk) (Some new) (cond (at u o) (Some o) (outlet_of u os))
    go later true t =
        ap (λ b. cond b (Some o) (outlet_of u (os ++ new ∷ []))) t
        ∙ ap (λ c. cond c (Some new) (Some o)) (sym (other t (same_trunk u new.port.trunk) refl))
        ∙ ap (λ b. cond (same_trunk u new.port.trunk) (Some new) (cond b (Some o) (outlet_of u os))) (sym t)
    go later false t =
        ap (λ b. cond b (Some o) (outlet_of u (os ++ new ∷ []))) t ∙ later (here (at new.port.trunk o) refl).1
        ∙ ap (λ b. cond (same_trunk u new.port.trunk) (Some new) (cond b (Some o) (outlet_of u os))) (sym t)

-- ---- no two are of one connection

-- it is the same whichever of two connections is named first
turned : (t u : TrunkId) → same_trunk t u ≡ false → (b : Bool) → same_trunk u t ≡ b → b ≡ false
turned t u h true e = let no : true ≡ false = sym (same_trunk_refl t) ∙ ap (λ x. same_trunk t x) (sym (same_trunk_true u t e)) ∙ h in cc
turned t u h false e = refl

pub other_way : (t u : TrunkId) → same_trunk t u ≡ false → same_trunk u t ≡ false
other_way t u h = turned t u h (same_trunk u t) refl

-- of two parts of what is none
not_here : (b : Bool) (o : Outlet) (rest : Option Outlet) → cond b (Some o) rest ≡ None → (b ≡ false) × (rest ≡ None)
not_here true o rest h = absurd (let no : ◌≡◌ {A = Option Outlet} (Some o) None = h in cc)
not_here false o rest h = (refl, h)

pub apart_set : (trunk : TrunkId) (k : ℕ) (os : List Outlet) (new : Outlet) → IsFirst trunk k os → new.port.trunk ≡ trunk
    → AreApart os → AreApart (set os k new)
apart_set trunk k [] new h n a = absurd h
apart_set trunk zero (o ∷ os) new h n a =
    (ap (λ t. outlet_of t os) (n ∙ same_trunk_true trunk o.port.trunk h) ∙ a.0, a.1)
apart_set trunk (suc k) (o ∷ os) new h n a = (
  outlet_set o.port.trunk trunk k os new h.1 n
      ∙ ap (λ b. cond b (Some new) (outlet_of o.port.trunk os)) (other_way trunk o.port.trunk h.0) ∙ a.0,
  apart_set trunk k os new h.1 n a.1,
)

pub apart_push : (os : List Outlet) (new : Outlet) → outlet_of new.port.trunk os ≡ None → AreApart os → AreApart (os ++ new ∷ [])
apart_push [] new none a = (refl, tt)
apart_push (o ∷ os) new none a =
    let other = not_here (same_trunk new.port.trunk o.port.trunk) o (outlet_of new.port.trunk os) none in (
      outlet_push o.port.trunk os new other.1
          ∙ ap (λ b. cond b (Some new) (outlet_of o.port.trunk os)) (other_way new.port.trunk o.port.trunk other.0) ∙ a.0,
      apart_push os new other.1 a.1,
    )

none_in_pieces : (greatest : ℕ) (trunk : TrunkId) (os : List Outlet) → outlet_of trunk os ≡ None
    → outlet_of trunk (map (with_piece greatest) os) ≡ None
none_in_pieces greatest trunk [] h = refl
none_in_pieces greatest trunk (o ∷ os) h =
    let other = not_here (same_trunk trunk o.port.trunk) o (outlet_of trunk os) h in
    ap (λ b. cond b (Some (with_piece greatest o)) (outlet_of trunk (map (with_piece greatest) os))) other.0
    ∙ none_in_pieces greatest trunk os other.1

pub apart_in_pieces : (greatest : ℕ) (os : List Outlet) → AreApart os → AreApart (map (with_piece greatest) os)
apart_in_pieces greatest [] a = tt
apart_in_pieces greatest (o ∷ os) a = (none_in_pieces greatest o.port.trunk os a.0, apart_in_pieces greatest os a.1)

-- so one of a connection is the first of it
not_before : (trunk : TrunkId) (o : Outlet) (os : List Outlet) (k : ℕ) → outlet_of o.port.trunk os ≡ None → IsFirst trunk k os
    → (b : Bool) → same_trunk trunk o.port.trunk ≡ b → b ≡ false
not_before trunk o os k none first true e =
    let no : ◌≡◌ {A = Option Outlet} None (Some (get_or os k o)) =
    sym none ∙ ap (λ t. outlet_of t os) (sym (same_trunk_true trunk o.port.trunk e)) ∙ first_is trunk k os o first in cc
not_before trunk o os k none first false e = refl

near_first : (trunk : TrunkId) (k : ℕ) (os : List Outlet) (o : Outlet) → AreApart os → k < length os → o ≡ get_or os k o
    → at trunk o ≡ true → IsFirst trunk k os
near_first trunk k [] o a h is t = absurd (omega arith)
near_first trunk zero (x ∷ os) o a h is t = ap (λ y. at trunk y) (sym is) ∙ t
near_first trunk (suc k) (x ∷ os) o a h is t =
    let later = near_first trunk k os o a.1 (omega arith) is t in (not_before trunk x os k a.0 later (at trunk x) refl, later)

position_first : (trunk : TrunkId) (i k : ℕ) (os : List Outlet) → IsFirst trunk k os → position_from (at trunk) i os ≡ Some (i + k)
position_first trunk i k [] h = absurd h
position_first trunk i zero (o ∷ os) h =
    ap (λ b. cond b (Some i) (position_from (at trunk) (i + 1) os)) h ∙ ap (λ (n : ℕ). Some n) (omega arith)
position_first trunk i (suc k) (o ∷ os) h =
    ap (λ b. cond b (Some i) (position_from (at trunk) (i + 1) os)) h.0 ∙ position_first trunk (i + 1) k os h.1
    ∙ ap (λ (n : ℕ). Some n) (omega arith)

pub found_near : (trunk : TrunkId) (k : ℕ) (os : List Outlet) (o : Outlet) → AreApart os → k < length os → o ≡ get_or os k o
    → at trunk o ≡ true → position (at trunk) os ≡ Some k
found_near trunk k os o a h is t =
    position_from-zero (at trunk) os ∙ position_first trunk 0 k os (near_first trunk k os o a h is t)
    ∙ ap (λ (n : ℕ). Some n) (let same : 0 + k ≡ k = omega arith in same)
