-- The value of digits, one after the other.
use Rattle.std.proofs.Common.{◌≡◌, ℕ, suc, ◌+◌, ◌*◌, ◌<◌, ◌≤◌, List, [], ◌∷◌, length}
use Rattle.std.proofs.Common.{get_or, drop, drop-cons, add-one, refl, sym, ap, arith}
use Rattle.std.proofs.Math.Nat.{mul-le-mul_left}
use Rattle.std.specs.Char.{digit_value}
use Rattle.std.specs.Str.Parse.{digits_value_after}

pub value_more : (radix v i : ℕ) (ds : List ℕ) (x : ℕ) → i < length ds → x ≡ get_or ds i 0
    → digits_value_after radix v (drop i ds) ≡ digits_value_after radix (v * radix + digit_value x) (drop (i + 1) ds)
value_more radix v i ds x lt e =
    rw (add-one, drop-cons ds i 0) (ap (λ (y : ℕ). digits_value_after radix (v * radix + digit_value y) (drop (suc i) ds)) (sym e))

pub value_le : (radix v : ℕ) (ds : List ℕ) → 1 ≤ radix → v ≤ digits_value_after radix v ds
value_le radix v [] h = omega arith
value_le radix v (d ∷ ds) h =
    let more = value_le radix (v * radix + digit_value d) ds h in
    let times = mul-le-mul_left v h in
    omega arith

-- too much so far is too much
pub value_over : (most radix v i : ℕ) (ds : List ℕ) (whole : ℕ) → 1 ≤ radix → i < length ds
    → digits_value_after radix v (drop i ds) ≡ whole → most ≤ v * radix + digit_value (get_or ds i 0) → most ≤ whole
value_over most radix v i ds whole h lt so_far le =
    let k = value_le radix (v * radix + digit_value (get_or ds i 0)) (drop (i + 1) ds) h in
    let e = value_more radix v i ds (get_or ds i 0) lt refl in
    omega arith

pub not_less : (a b : ℕ) → (a < b → ⊥) → b ≤ a
not_less a b h = omega arith
