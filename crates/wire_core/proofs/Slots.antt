-- What comes next has come.
use Rattle.std.proofs.Common.{◌≡◌, ℕ, zero, suc, ◌+◌, List, [], ◌∷◌, drop, refl, ap, ◌∙◌, arith}
use Rattle.wire_core.specs.Ports.{behind_first}
use Rattle.wire_core.specs.declared.parcel.Parcel.{Parcel}

drop_suc : (n : ℕ) (l : List Parcel) → drop (suc n) l ≡ behind_first (drop n l)
drop_suc zero [] = refl
drop_suc (suc n) (x ∷ l) = drop_suc n l
drop_suc _ _ = refl

pub drop_next : (n : ℕ) (l : List Parcel) → drop (n + 1) l ≡ behind_first (drop n l)
drop_next n l = let e : n + 1 ≡ suc n = omega arith in ap (λ m. drop m l) e ∙ drop_suc n l
