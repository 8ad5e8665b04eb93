-- Numbers of one byte and of four.
use Rattle.std.proofs.Common.{◌≡◌, ℕ, zero, suc, ◌+◌, ◌*◌, ◌^◌, ◌<◌, List, [], ◌∷◌, get_or, refl, ap, arith}
use Rattle.std.proofs.lemmas.List.{get_or_past}
use Rattle.byteorder.specs.Endian.{big_number}
use Rattle.erl_term.specs.Numbers.{AreBytes}
use Rattle.erl_term.specs.Spelling.{IsNumber}

-- a field of one byte is that byte
pub one_byte : (n : ℕ) (b : List ℕ) → IsNumber 1 n b → b ≡ n ∷ []
one_byte n [] s = absurd (let l = s.len in omega arith)
one_byte n (x ∷ []) s = let e : x * 256 ^ 0 + 0 ≡ n = s.says in let k : x ≡ n = omega arith in ap (λ (y : ℕ). y ∷ []) k
one_byte n (x ∷ y ∷ b) s = absurd (let l = s.len in omega arith)

pub byte_number : (n : ℕ) → n < 256 → IsNumber 1 n (n ∷ [])
byte_number n lt = record { len = refl; bytes = fits; says = omega arith }
  where
    fits : AreBytes (n ∷ [])
    fits zero = lt
    fits (suc i) = let e : get_or {A = ℕ} [] i 0 ≡ 0 = get_or_past [] i 0 (omega arith) in omega arith

pub number_1 : (n : ℕ) (b : List ℕ) → IsNumber 1 n b → n < 256
number_1 n b s = let e : get_or b 0 0 * 256 ^ 0 + 0 ≡ n = s.says in let k = s.bytes 0 in omega arith

pub number_4 : (n : ℕ) (b : List ℕ) → IsNumber 4 n b → n < 2 ^ 32
number_4 n b s =
    let e : big_number 4 b ≡ n = s.says in let k0 = s.bytes 0 in let k1 = s.bytes 1 in let k2 = s.bytes 2 in
    let k3 = s.bytes 3 in omega arith
