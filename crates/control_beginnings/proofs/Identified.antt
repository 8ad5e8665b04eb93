-- An Id in the rows of integers.
use Rattle.std.proofs.Common.{◌≡◌, ℕ, zero, suc, ◌+◌, ◌-◌, ◌*◌, ◌^◌, ◌≤◌, ◌<◌, List, [], ◌∷◌, ◌++◌, length, get_or, refl, sym, ap, subst, ◌∙◌, arith}
use Rattle.std.proofs.Common.{inl, inr, IsTrue, ltb, leb, eqb, not, rules}
use Rattle.std.proofs.Math.Nat.{pow-suc, pow-zero}
use Rattle.std.proofs.lemmas.List.{length-append}
use Rattle.std.proofs.lemmas.Bool.{cases_lt, ltb-true}
use Rattle.std.proofs.lemmas.Bool.Decides.{nat_tests}
use Rattle.byteorder.specs.Endian.{big_number}
use Rattle.erl_term.specs.Numbers.{AreBytes, low_first}
use Rattle.erl_term.specs.Spelling.{IsNumber}
use Rattle.erl_term.proofs.Bytes.{one_byte, byte_number}
use Rattle.control_beginnings.specs.Parts.{Starts, IsByteId, IsWordId, IsDigitsId, zeros}
use Rattle.control_beginnings.proofs.Tagged.{low_first-cons, low_first-zeros, length-zeros, zeros_are_bytes, AreBytes-cons}

-- ---- a byte

pub byte_some : (field : List ℕ) → field ≡ [] → Starts IsByteId field
byte_some field e = subst (Starts IsByteId) (sym e) (1 ∷ [], (1, omega arith, byte_number 1 (omega arith)))

pub byte_one : (field : List ℕ) (x : ℕ) → field ≡ x ∷ [] → x < 256 → 1 ≤ x → Starts IsByteId field
byte_one field x e lt some = subst (Starts IsByteId) (sym e) ([], (x, some, byte_number x lt))

pub byte_of : (field : List ℕ) (x : ℕ) (rest : List ℕ) → field ≡ x ∷ rest → Starts IsByteId field → (rest ≡ []) × (1 ≤ x)
byte_of field x rest e (more, (id, some, number)) =
    let same : x ∷ (rest ++ more) ≡ id ∷ [] = ap (λ (w : List ℕ). w ++ more) (sym e) ∙ one_byte id (field ++ more) number in
    let first : x ≡ id = cc in
    let tail : rest ++ more ≡ [] = cc in
    (front_nil rest more tail, subst (λ (n : ℕ). 1 ≤ n) (sym first) some)
  where
    front_nil : (xs ys : List ℕ) → xs ++ ys ≡ [] → xs ≡ []
    front_nil [] ys e = refl
    front_nil (x ∷ xs) ys e = absurd cc

-- ---- a word

word_is : (a b c d : ℕ) → AreBytes (a ∷ b ∷ c ∷ d ∷ []) → a < 128 → 1 ≤ big_number 4 (a ∷ b ∷ c ∷ d ∷ []) → IsWordId (a ∷ b ∷ c ∷ d ∷ [])
word_is a b c d h low some =
    let k0 : a < 256 = h 0 in
    let k1 : b < 256 = h 1 in
    let k2 : c < 256 = h 2 in
    let k3 : d < 256 = h 3 in
    let lt : big_number 4 (a ∷ b ∷ c ∷ d ∷ []) < 2 ^ 31 = omega arith in
    (big_number 4 (a ∷ b ∷ c ∷ d ∷ []), some, lt, record { len = refl; bytes = h; says = refl })

-- the bytes are completed by zeros, and a one at the end
pub word_starts : (field : List ℕ) → AreBytes field → length field ≤ 4 → (1 ≤ length field → get_or field 0 0 < 128)
    → (length field ≡ 4 → 1 ≤ big_number 4 field) → Starts IsWordId field
word_starts [] h short low some = (
  0 ∷ 0 ∷ 0 ∷ 1 ∷ [],
  word_is 0 0 0 1 (AreBytes-cons 0 (0 ∷ 0 ∷ 1 ∷ []) (omega arith) (AreBytes-cons 0 (0 ∷ 1 ∷ []) (omega arith)
      (AreBytes-cons 0 (1 ∷ []) (omega arith) (AreBytes-cons 1 [] (omega arith) (zeros_are_bytes 0))))) (omega arith) (omega arith),
)
word_starts (a ∷ []) h short low some =
    let l : a < 128 = low (omega arith) in (
      0 ∷ 0 ∷ 1 ∷ [],
      word_is a 0 0 1 (AreBytes-cons a (0 ∷ 0 ∷ 1 ∷ []) (h 0) (AreBytes-cons 0 (0 ∷ 1 ∷ []) (omega arith)
          (AreBytes-cons 0 (1 ∷ []) (omega arith) (AreBytes-cons 1 [] (omega arith) (zeros_are_bytes 0))))) l (omega arith),
    )
word_starts (a ∷ b ∷ []) h short low some =
    let l : a < 128 = low (omega arith) in (
      0 ∷ 1 ∷ [],
      word_is a b 0 1 (AreBytes-cons a (b ∷ 0 ∷ 1 ∷ []) (h 0) (AreBytes-cons b (0 ∷ 1 ∷ []) (h 1)
          (AreBytes-cons 0 (1 ∷ []) (omega arith) (AreBytes-cons 1 [] (omega arith) (zeros_are_bytes 0))))) l (omega arith),
    )
word_starts (a ∷ b ∷ c ∷ []) h short low some =
    let l : a < 128 = low (omega arith) in (
      1 ∷ [],
      word_is a b c 1 (AreBytes-cons a (b ∷ c ∷ 1 ∷ []) (h 0) (AreBytes-cons b (c ∷ 1 ∷ []) (h 1)
          (AreBytes-cons c (1 ∷ []) (h 2) (AreBytes-cons 1 [] (omega arith) (zeros_are_bytes 0))))) l (omega arith),
    )
word_starts (a ∷ b ∷ c ∷ d ∷ []) h short low some = ([], word_is a b c d h (low (omega arith)) (some refl))
word_starts (a ∷ b ∷ c ∷ d ∷ e ∷ field) h short low some = absurd (omega arith)

pub record WordKnown (field : List ℕ) : Type 0 where
  pub short : length field ≤ 4
  pub low : 1 ≤ length field → get_or field 0 0 < 128
  pub some : length field ≡ 4 → 1 ≤ big_number 4 field

first_low : (a b c d : ℕ) → big_number 4 (a ∷ b ∷ c ∷ d ∷ []) < 2 ^ 31 → a < 128
first_low a b c d lt = omega arith

pub word_known : (field : List ℕ) → Starts IsWordId field → WordKnown field
word_known field (more, (id, ge, lt, number)) = by field more number
  where
    at : (a : ℕ) (xs : List ℕ) → IsNumber 4 id (a ∷ xs) → a < 128
    at a (b ∷ c ∷ d ∷ []) s = first_low a b c d (subst (λ (n : ℕ). n < 2 ^ 31) (sym s.says) lt)
    at a [] s = absurd (let l = s.len in omega arith)
    at a (b ∷ []) s = absurd (let l = s.len in omega arith)
    at a (b ∷ c ∷ []) s = absurd (let l = s.len in omega arith)
    at a (b ∷ c ∷ d ∷ e ∷ xs) s = absurd (let l = s.len in omega arith)

    by : (xs ys : List ℕ) → IsNumber 4 id (xs ++ ys) → WordKnown xs
    by [] ys s = record { short = omega arith; low = λ l. absurd (omega arith); some = λ l. absurd (omega arith) }
    by (a ∷ []) ys s = record { short = omega arith; low = λ l. at a ys s; some = λ l. absurd (omega arith) }
    by (a ∷ b ∷ []) ys s = record { short = omega arith; low = λ l. at a (b ∷ ys) s; some = λ l. absurd (omega arith) }
    by (a ∷ b ∷ c ∷ []) ys s = record { short = omega arith; low = λ l. at a (b ∷ c ∷ ys) s; some = λ l. absurd (omega arith) }
    by (a ∷ b ∷ c ∷ d ∷ []) [] s =
        record { short = omega arith; low = λ l. at a (b ∷ c ∷ d ∷ []) s; some = λ l. subst (λ (n : ℕ). 1 ≤ n) (sym s.says) ge }
    by (a ∷ b ∷ c ∷ d ∷ []) (y ∷ ys) s = absurd (let l = s.len in omega arith)
    by (a ∷ b ∷ c ∷ d ∷ e ∷ xs) ys s = absurd (let l = s.len in omega arith)

-- ---- a magnitude

grow : (n k : ℕ) → 256 ^ n ≤ 256 ^ (n + k)
grow n zero = let e : n + 0 ≡ n = omega arith in rw e (omega arith)
grow n (suc k) =
    let e : n + suc k ≡ suc (n + k) = omega arith in
    let g = grow n k in
    let p = pow-suc 256 (n + k) in
    rw e (omega arith)

more_bytes : (n m : ℕ) → n ≤ m → 256 ^ n ≤ 256 ^ m
more_bytes n m le = let e : n + (m - n) ≡ m = omega arith in subst (λ (k : ℕ). 256 ^ n ≤ 256 ^ k) e (grow n (m - n))

times : (a b c d : ℕ) → a ≡ b * 256 → a * c ≡ 256 * (b * c)
times a b c d e = rw e (grind arith)

pub low_first-append : (a b : List ℕ) → low_first (a ++ b) ≡ low_first a + 256 ^ length a * low_first b
low_first-append [] b = let p = pow-zero 256 in rw p (omega arith)
low_first-append (d ∷ a) b =
    let k = low_first-cons d (a ++ b) in
    let l = low_first-cons d a in
    let r = low_first-append a b in
    let t : 256 ^ suc (length a) * low_first b ≡ 256 * (256 ^ length a * low_first b) =
    times (256 ^ suc (length a)) (256 ^ length a) (low_first b) 0 (pow-suc 256 (length a)) in
    omega arith

AreBytes-append : (a b : List ℕ) → AreBytes a → AreBytes b → AreBytes (a ++ b)
AreBytes-append [] b h k = k
AreBytes-append (x ∷ a) b h k = AreBytes-cons x (a ++ b) (h 0) (AreBytes-append a b (λ i. h (suc i)) k)

-- digits that say a number are completed by zeros
pub digits_start : (len : ℕ) (digits : List ℕ) → AreBytes digits → length digits ≤ len → 1 ≤ low_first digits
    → low_first digits < 2 ^ 64 → Starts (IsDigitsId len) digits
digits_start len digits h short some fits =
    let n = length-zeros (len - length digits) in
    let l = length-append digits (zeros (len - length digits)) in
    let z = low_first-zeros (len - length digits) in
    let e = low_first-append digits (zeros (len - length digits)) in
    let m : 256 ^ length digits * low_first (zeros (len - length digits)) ≡ 0 = rw z (grind arith) in (
      zeros (len - length digits),
      record {
        len_is = omega arith;
        are_bytes = AreBytes-append digits (zeros (len - length digits)) h (zeros_are_bytes (len - length digits));
        some = omega arith;
        fits = omega arith;
      },
    )

-- and zeros by a one, and zeros
pub zeros_start : (len : ℕ) (digits : List ℕ) → AreBytes digits → length digits < len → low_first digits ≡ 0
    → length digits < 8 → Starts (IsDigitsId len) digits
zeros_start len digits h short none few =
    let r = len - length digits - 1 in
    let n = length-zeros r in
    let l = length-append digits (1 ∷ zeros r) in
    let z = low_first-zeros r in
    let o = low_first-cons 1 (zeros r) in
    let one : low_first (1 ∷ zeros r) ≡ 1 = omega arith in
    let e = low_first-append digits (1 ∷ zeros r) in
    let m : 256 ^ length digits * low_first (1 ∷ zeros r) ≡ 256 ^ length digits = rw one (grind arith) in
    let top : 256 ^ length digits ≤ 256 ^ 7 = more_bytes (length digits) 7 (omega arith) in
    let low : 256 ^ 0 ≤ 256 ^ length digits = more_bytes 0 (length digits) (omega arith) in (
      1 ∷ zeros r,
      record {
        len_is = omega arith;
        are_bytes = AreBytes-append digits (1 ∷ zeros r) h (AreBytes-cons 1 (zeros r) (omega arith) (zeros_are_bytes r));
        some = omega arith;
        fits = omega arith;
      },
    )

pub record DigitsKnown (len : ℕ) (digits : List ℕ) : Type 0 where
  pub short : length digits ≤ len
  pub fits : low_first digits < 2 ^ 64
  pub more : low_first digits ≡ 0 → (length digits < len) × (length digits < 8)

product : (p q : ℕ) → 2 ^ 64 ≤ p → 1 ≤ q → 2 ^ 64 ≤ p * q
product p zero le some = absurd (omega arith)
product p (suc q) le some = grind arith

pub digits_known : (len : ℕ) (digits : List ℕ) → Starts (IsDigitsId len) digits → DigitsKnown len digits
digits_known len digits (more, s) =
    let l = length-append digits more in
    let n = s.len_is in
    let e = low_first-append digits more in
    let f = s.fits in
    record { short = omega arith; fits = omega arith; more = λ z. by more z l n e f s.some }
  where
    by : (xs : List ℕ) → low_first digits ≡ 0 → length (digits ++ xs) ≡ length digits + length xs → length (digits ++ xs) ≡ len
        → low_first (digits ++ xs) ≡ low_first digits + 256 ^ length digits * low_first xs → low_first (digits ++ xs) < 2 ^ 64
        → 1 ≤ low_first (digits ++ xs) → (length digits < len) × (length digits < 8)
    by [] z l n e f g = absurd (let m : 256 ^ length digits * 0 ≡ 0 = grind arith in omega arith)
    by (x ∷ xs) z l n e f g = (omega arith, few)
      where
        few : length digits < 8
        few =
            elim (cases_lt (length digits) 8) as (λ _. length digits < 8) [
              | inl lt ↦ lt
              | inr ge ↦ absurd (large (low_first (x ∷ xs)) (more_bytes 8 (length digits) ge) (e ∙ ap (λ (k : ℕ). k + 256 ^ length digits * low_first (x ∷ xs)) z))
            ]
          where
            large : (q : ℕ) → 256 ^ 8 ≤ 256 ^ length digits → low_first (digits ++ (x ∷ xs)) ≡ 0 + 256 ^ length digits * q → ⊥
            large zero le k = let m : 256 ^ length digits * 0 ≡ 0 = grind arith in omega arith
            large (suc q) le k = let m = product (256 ^ length digits) (suc q) (omega arith) (omega arith) in omega arith

-- ---- tests

pub lt_true : (a b : ℕ) → IsTrue (ltb a b) → a < b
lt_true a b t = ltb-true a b t

pub true_lt : (a b : ℕ) → a < b → IsTrue (ltb a b)
true_lt a b lt = search rules

pub le_true : (a b : ℕ) → IsTrue (leb a b) → a ≤ b
le_true a b t = grind (arith, nat_tests)

pub true_le : (a b : ℕ) → a ≤ b → IsTrue (leb a b)
true_le a b le = search rules

pub some_true : (n : ℕ) → IsTrue (not (eqb n 0)) → 1 ≤ n
some_true n t = grind (arith, nat_tests)

pub true_some : (n : ℕ) → 1 ≤ n → IsTrue (not (eqb n 0))
true_some n some = grind (arith, nat_tests)
