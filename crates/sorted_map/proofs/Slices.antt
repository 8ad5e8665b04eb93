-- What stands at a place of a list.
use Rattle.std.proofs.Common.{◌≡◌, Bor, ℕ, zero, suc, ◌+◌, List, [], ◌∷◌, drop, Option, None, Some, refl, sym, ap, ◌∙◌, arith}
use Rattle.std.proofs.lemmas.Bool.{ltb-true, ltb-false}
use Rattle.std.proofs.lemmas.Option.{slice_get_past, slice_get-get_or}
use Rattle.std.specs.List.{slice_get}
use Rattle.std.specs.Option.{option_copied}
use Rattle.std.specs.Slice.{IsItemAt}

-- what is read there
pub read_at : {A : Type 0} (xs : List A) (i : ℕ) (o : Option (Bor A)) → IsItemAt xs i o → option_copied o ≡ slice_get xs i
read_at xs i None item = sym (slice_get_past xs i (ltb-false _ _ (sym item.0)))
read_at xs i (Some x) item = ap Some item.1 ∙ sym (slice_get-get_or xs i x.now (ltb-true _ _ (sym item.0)))

-- what stands there in the rest from another place on
pub slice_get_behind : {A : Type 0} (n : ℕ) (xs : List A) (i : ℕ) → slice_get (drop n xs) i ≡ slice_get xs (n + i)
slice_get_behind zero xs i = let e : i ≡ 0 + i = omega arith in ap (slice_get xs) e
slice_get_behind (suc n) [] i = refl
slice_get_behind (suc n) (x ∷ xs) i = let e : suc (n + i) ≡ suc n + i = omega arith in slice_get_behind n xs i ∙ ap (slice_get (x ∷ xs)) e
