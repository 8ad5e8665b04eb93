-- Receipts that rise, with one more behind them.
use Rattle.std.proofs.Common.{◌≡◌, ℕ, zero, suc, ◌-◌, ◌++◌, ◌∷◌, List, [], length, slice_get, subst, ap, sym, ◌∙◌, arith}
use Rattle.node_lock.specs.Seats.{IsBehind, Rise, last_of}
use Rattle.node_lock.specs.declared.seat.Asked.{Asked}

-- the last of two or more is the last of those behind the first
last_behind : (x y : Asked) (ys : List Asked) → last_of (x ∷ y ∷ ys) ≡ last_of (y ∷ ys)
last_behind x y ys =
    let one : length (x ∷ y ∷ ys) - 1 ≡ suc (length ys) = omega arith in
    let other : length (y ∷ ys) - 1 ≡ length ys = omega arith in
    ap (λ (k : ℕ). slice_get (x ∷ y ∷ ys) k) one ∙ sym (ap (λ (k : ℕ). slice_get (y ∷ ys) k) other)

pub pushed : (receipts : List Asked) (asked : Asked) → Rise receipts → IsBehind (last_of receipts) asked → Rise (receipts ++ asked ∷ [])
pushed [] asked rise behind k = tt
pushed (x ∷ []) asked rise behind zero =
    let first : length (x ∷ []) - 1 ≡ 0 = omega arith in
    subst (λ (k : ℕ). IsBehind (slice_get (x ∷ []) k) asked) first behind
pushed (x ∷ []) asked rise behind (suc k) = tt
pushed (x ∷ y ∷ ys) asked rise behind zero = rise zero
pushed (x ∷ y ∷ ys) asked rise behind (suc k) =
    pushed (y ∷ ys) asked (λ j. rise (suc j)) (subst (λ o. IsBehind o asked) (last_behind x y ys) behind) k
