-- Facts of tests that more than one file needs, and std doesn't state.
use Rattle.std.proofs.Common.{◌≡◌, Contains, [], arith, Bool, true, false, refl, ◌&&◌, ◌||◌}
use Rattle.std.proofs.lemmas.Bool.{both_ways, false≢true}

pub not_both : {P : Type 0} (b : Bool) → b ≡ true → b ≡ false → P
not_both b h k = absurd (both_ways b k h)

pub nothing : {P : Type 0} → false ≡ true → P
nothing h = absurd (false≢true h)

pub and_second : (a b : Bool) → (a && b) ≡ false → a ≡ true → b ≡ false
and_second true b h e = h
and_second false b h e = cc

pub either : (a b : Bool) (P : Type 0) → (a || b) ≡ true → (a ≡ true → P) → (b ≡ true → P) → P
either true b P h f g = f refl
either false b P h f g = g h

pub none_within : {A : Type 0} (x : A) → Contains {X = A} [] x → ⊥
none_within x h = let lt = h.1 in omega arith
