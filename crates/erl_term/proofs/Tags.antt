-- A choice by a byte, out of a list of them.
use Rattle.std.proofs.Common.{◌≡◌, ℕ, suc, Bool, true, false, eqb, List, [], ◌∷◌, refl, sym, subst, arith, inl, inr}
use Rattle.std.specs.List.{list_any}
use Rattle.std.proofs.lemmas.Bool.{eqb-true, or_parts, or_cases}

-- a number that isn't 0
suc_by : (n : ℕ) (b : Bool) → eqb (suc n) 0 ≡ b → eqb (suc n) 0 ≡ false
suc_by n true e = absurd (let k = eqb-true (suc n) 0 e in omega arith)
suc_by n false e = e

pub suc_not : (n : ℕ) → eqb (suc n) 0 ≡ false
suc_not n = suc_by n (eqb (suc n) 0) refl

-- P holds of each
abbrev pub Each : (ℕ → Type 0) → List ℕ → Type 0
Each P [] = Unit {0}
Each P (k ∷ ks) = P k × Each P ks

-- what holds of each holds of the one that is found
pub each_found : (P : ℕ → Type 0) (ks : List ℕ) → Each P ks → (k : ℕ) → list_any (λ j. eqb k j) ks ≡ true → P k
each_found P [] h k e = absurd cc
each_found P (j ∷ ks) h k e =
    elim (or_cases (eqb k j) (list_any (λ i. eqb k i) ks) e) as (λ _. P k) [
      | inl p ↦ subst P (sym (eqb-true k j p)) h.0
      | inr q ↦ each_found P ks h.1 k q
    ]

-- one that isn't found is none of them
pub none_found : (ks : List ℕ) (k : ℕ) → list_any (λ j. eqb k j) ks ≡ false → Each (λ j. eqb k j ≡ false) ks
none_found [] k e = tt
none_found (j ∷ ks) k e = let p = or_parts (eqb k j) (list_any (λ i. eqb k i) ks) e in (p.0, none_found ks k p.1)
