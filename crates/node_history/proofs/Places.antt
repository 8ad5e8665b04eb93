-- Two lists are the same where they are at each place.
use Rattle.std.proofs.Common.{◌≡◌, ℕ, zero, suc, ◌<◌, List, [], ◌∷◌, length, map, get_or, sym, ap, ◌∙◌, arith}

module _ {A B : Type 0} (f : A → B) where
  -- at one place
  pub at_place : (xs ys : List A) (k : ℕ) (x y : A) → x ≡ get_or xs k x → y ≡ get_or ys k y → k < length xs → k < length ys
      → map f xs ≡ map f ys → f x ≡ f y
  at_place [] ys k x y i j lx ly h = absurd (omega arith)
  at_place (u ∷ xs) [] k x y i j lx ly h = absurd (omega arith)
  at_place (u ∷ xs) (v ∷ ys) zero x y i j lx ly h = let first : f u ≡ f v = cc in ap f i ∙ first ∙ ap f (sym j)
  at_place (u ∷ xs) (v ∷ ys) (suc k) x y i j lx ly h =
      let rest : map f xs ≡ map f ys = cc in at_place xs ys k x y i j (omega arith) (omega arith) rest
