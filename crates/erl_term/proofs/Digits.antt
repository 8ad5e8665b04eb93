-- The digits of a magnitude, as the bytes of a number and as its highest bit says.
use Rattle.std.proofs.Common.{◌-◌, ◌*◌, ◌%◌, ◌/◌, ◌^◌, eqb, ltb, true, false, Bool, take, ◌≡◌}
use Rattle.std.proofs.Common.{ℕ, zero, suc, ◌+◌, ◌<◌, ◌≤◌, List, ◌∷◌, length, refl, sym, ap, ◌∙◌, arith}
use Rattle.std.proofs.Math.Nat.{pow-suc, pow-zero, div-div-eq-div-mul, div-one}
use Rattle.std.proofs.Math.Pow.{pow_mono}
use Rattle.std.proofs.lemmas.Nat.{pow_pos, pow-add}
use Rattle.std.proofs.lemmas.Bool.{eqb-true, ltb-true, ltb-false}
use Rattle.std.specs.Int.{byte_at, bytes_low_first}
use Rattle.erl_term.specs.Canonical.{digits}

-- ---- how many digits

digits_none : (most m : ℕ) → m ≡ 0 → length (digits most m) ≡ 0
digits_none zero m e = refl
digits_none (suc most) m e = rw e refl

is_some : (m : ℕ) (b : Bool) → eqb m 0 ≡ b → 0 < m → eqb m 0 ≡ false
is_some m true e some = absurd (let z = eqb-true m 0 e in omega arith)
is_some m false e some = e

some_digits : (most m : ℕ) → 0 < m → digits (suc most) m ≡ (m % 256) ∷ digits most (m / 256)
some_digits most m some = let not = is_some m (eqb m 0) refl some in rw not refl

-- a number with its highest bit at `top` has a digit more than eight fit below that bit
pub digit_count : (most m top : ℕ) → 2 ^ top ≤ m → m < 2 * 2 ^ top → top < 8 * most → length (digits most m) ≡ top / 8 + 1
digit_count zero m top low high fits = absurd (omega arith)
digit_count (suc most) m top low high fits = by (ltb top 8) refl (digit_count most (m / 256) (top - 8))
  where
    by : (b : Bool) → ltb top 8 ≡ b
        → (2 ^ (top - 8) ≤ m / 256 → m / 256 < 2 * 2 ^ (top - 8) → top - 8 < 8 * most → length (digits most (m / 256)) ≡ (top - 8) / 8 + 1)
        → length (digits (suc most) m) ≡ top / 8 + 1
    by true e more =
        let lt = ltb-true top 8 e in
        let p : 2 ^ top ≤ 2 ^ 7 = pow_mono {i = top} {j = 7} (omega arith) in
        let some = pow_pos top in
        let none : m / 256 ≡ 0 = omega arith in
        let one = ap length (some_digits most m (omega arith)) in
        let rest = digits_none most (m / 256) none in
        omega arith
    by false e more =
        let ge = ltb-false top 8 e in
        let p : 2 ^ top ≡ 2 ^ 8 * 2 ^ (top - 8) =
        ap (λ (k : ℕ). 2 ^ k) (let k : top ≡ 8 + (top - 8) = omega arith in k) ∙ pow-add 2 8 (top - 8) in
        let some = pow_pos top in
        let one = ap length (some_digits most m (omega arith)) in
        let rest = more (omega arith) (omega arith) (omega arith) in
        omega arith

-- ---- which digits

byte_is : (i n : ℕ) → byte_at i n ≡ n / 256 ^ i % 256
byte_is zero n = let p = pow-zero 256 in ap (λ (k : ℕ). k % 256) (sym (div-one n) ∙ ap (λ (k : ℕ). n / k) (sym p))
byte_is (suc i) n = refl

digits_from : (i most n : ℕ) → take (length (digits most (n / 256 ^ i))) (bytes_low_first i most n) ≡ digits most (n / 256 ^ i)
digits_from i zero n = refl
digits_from i (suc most) n = by (eqb (n / 256 ^ i) 0) refl (digits_from (suc i) most n)
  where
    next : n / 256 ^ suc i ≡ n / 256 ^ i / 256
    next = ap (λ (k : ℕ). n / k) (pow-suc 256 i) ∙ sym (div-div-eq-div-mul n (256 ^ i) 256)

    by : (b : Bool) → eqb (n / 256 ^ i) 0 ≡ b
        → take (length (digits most (n / 256 ^ suc i))) (bytes_low_first (suc i) most n) ≡ digits most (n / 256 ^ suc i)
        → take (length (digits (suc most) (n / 256 ^ i))) (bytes_low_first i (suc most) n) ≡ digits (suc most) (n / 256 ^ i)
    by true e rest = rw e refl
    by false e rest =
        rw (e, sym next, byte_is i n) (ap (λ (l : List ℕ). (n / 256 ^ i % 256) ∷ l) rest)

-- the digits of a number stand at the front of its bytes
pub front_digits : (most n : ℕ) → take (length (digits most n)) (bytes_low_first 0 most n) ≡ digits most n
front_digits most n =
    let e : n / 256 ^ 0 ≡ n = ap (λ (k : ℕ). n / k) (pow-zero 256) ∙ div-one n in
    rw e at (digits_from 0 most n)
