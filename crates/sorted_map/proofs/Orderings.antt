-- What tests say of orderings.
use Rattle.std.proofs.Common.{◌≡◌, ◌≢◌, ℕ, ◌<◌, Bool, true, false, cond, not, T, refl, arith}
use Rattle.std.specs.declared.cmp.Ordering.{Ordering}
use Rattle.std.specs.declared.cmp.Ordering.TheVariants.{Less, Equal, Greater}
use Rattle.std.specs.Ordering.{is_lt, is_le, is_eq, nat_cmp, ordering_then}
use Rattle.std.proofs.lemmas.Bool.{false_from_ne_true}
use Rattle.std.proofs.lemmas.Bool.Decides.{nat_tests}

pub less_of : (o : Ordering) → is_lt o ≡ true → o ≡ Less
less_of Less h = refl
less_of _ h = cc

pub equal_of : (o : Ordering) → is_eq o ≡ true → o ≡ Equal
equal_of Equal h = refl
equal_of _ h = cc

pub greater_of : (o : Ordering) → is_le o ≡ false → o ≡ Greater
greater_of Greater h = refl
greater_of _ h = cc

pub not_less : (o : Ordering) → o ≢ Less → is_lt o ≡ false
not_less o h = false_from_ne_true (is_lt o) (λ t. h (less_of o t))

pub never_both : (o : Ordering) → is_lt o ≡ true → is_le o ≡ false → ⊥
never_both Less h k = cc
never_both _ h k = cc

-- what a lexicographic comparison says of its parts
pub then_equal : (a b : Ordering) → ordering_then a b ≡ Equal → (a ≡ Equal) × (b ≡ Equal)
then_equal Equal b h = (refl, h)
then_equal _ b h = cc

pub less_nat : (i j : ℕ) → i < j → nat_cmp i j ≡ Less
less_nat i j l = grind (arith, nat_tests)

-- a choice by a test is the other one by its opposite
pub turned : {A : Type 0} (b : Bool) (x y : A) → cond b x y ≡ cond (not b) y x
turned true x y = refl
turned false x y = refl

pub is_true : (b : Bool) → T b → b ≡ true
is_true true h = refl
is_true false h = absurd h
