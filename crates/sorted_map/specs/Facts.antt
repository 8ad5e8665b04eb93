-- Small facts of entries in order, which the lemmas of this crate share.
use Rattle.std.proofs.Common.{◌≡◌, Bool, true, false, cond, ◌&&◌, T, List, [], ◌∷◌, None, Some, refl, sym, ap, ◌∙◌}
use Rattle.std.specs.declared.cmp.Ordering.{Ordering}
use Rattle.std.specs.declared.cmp.Ordering.TheVariants.{Less, Equal, Greater}
use Rattle.std.specs.Cmp.{IsTotalOrder, alike_right}
use Rattle.std.specs.Ordering.{is_lt, is_le, is_eq}
use Rattle.std.specs.FinMap.{find}
use Rattle.std.specs.FinMap.Entries.{below_all}

-- the two halves of a test by &&
pub both_pass : (a b : Bool) → T (a && b) → T a × T b
both_pass true b h = (tt, h)
both_pass false b h = absurd h

pub joined : (a b : Bool) → T a → T b → T (a && b)
joined true b p q = q
joined false b p q = absurd p

pub less : (o : Ordering) → T (is_lt o) → o ≡ Less
less Less h = refl
less Equal h = absurd h
less Greater h = absurd h

-- a key below all of them has no entry
pub find_below_all : {K V : Type 0} (cmp : K → K → Ordering) (key : K) (entries : List (K × V))
    → T (below_all cmp key entries) → find cmp key entries ≡ None
find_below_all cmp key [] h = refl
find_below_all cmp key (e ∷ rest) h =
    let t = both_pass _ _ h in
    ap (λ o. cond (is_eq o) (Some e.1) (find cmp key rest)) (less _ t.0) ∙ find_below_all cmp key rest t.1

module _ {K : Type 0} {R : K → K → Ordering} (o : IsTotalOrder R) where
  -- the lesser of two is below what the greater is below or tied with
  pub stays_less : (x y k : K) → R x y ≡ Less → is_lt (R y k) ≡ true → is_lt (R x k) ≡ true
  stays_less x y k l h = go (R y k) refl h
    where
      go : (c : Ordering) → R y k ≡ c → is_lt c ≡ true → is_lt (R x k) ≡ true
      go Less e t = ap is_lt (o.trans x y k l e)
      go Equal e t = cc
      go Greater e t = cc

  pub stays_le : (x y k : K) → R x y ≡ Less → is_le (R y k) ≡ true → is_le (R x k) ≡ true
  stays_le x y k l h = go (R y k) refl h
    where
      go : (c : Ordering) → R y k ≡ c → is_le c ≡ true → is_le (R x k) ≡ true
      go Less e t = ap is_le (o.trans x y k l e)
      go Equal e t = ap is_le (sym (alike_right o y k x e) ∙ l)
      go Greater e t = cc
