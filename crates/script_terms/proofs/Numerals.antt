-- A number that is printed is read again.
use Rattle.std.proofs.Common.{◌≡◌, ℕ, suc, ◌+◌, ◌%◌, ◌^◌, ◌≤◌, ◌<◌, Bool, true, false, eqb, ltb, List, [], ◌∷◌, ◌++◌, length}
use Rattle.std.proofs.Common.{drop, Ok, refl, ap, ◌∙◌, arith, decimal, mod-lt, lt-ltb, ne_eqb, ℤ, pos, negsuc, FitsSigned}
use Rattle.std.specs.Int.{w128}
use Rattle.std.specs.List.{list_all, take_while, prefix_len}
use Rattle.std.specs.Fmt.{digit_glyph, signed_decimal}
use Rattle.std.specs.Str.Parse.{digits_value}
use Rattle.std.proofs.lemmas.Bool.{and_parts}
use Rattle.std.proofs.lemmas.Bool.Decides.{nat_tests}
use Rattle.std.proofs.lemmas.Fmt.{decimal_is_IsNumeral_wide}
use Rattle.erl_term.specs.Numbers.{signed}
use Rattle.script_terms.specs.Words.{is_digit}
use Rattle.script_terms.specs.Reading.{digits_at, integer_at, byte_at}
use Rattle.script_terms.proofs.Runs.{stops, run_is, run_rest, digits_all}

glyph_digit : (d : ℕ) → d < 10 → is_digit (digit_glyph false d) ≡ true
glyph_digit d h = grind (arith, nat_tests)

pub decimal_digits : (n : ℕ) → list_all is_digit (decimal n) ≡ true
decimal_digits n = digits_all is_digit 10 false (λ m. glyph_digit (m % 10) (mod-lt m (omega arith))) n

digits_by : (sign n : ℕ) (bytes digits rest : List ℕ) → take_while is_digit bytes ≡ digits
    → drop (prefix_len is_digit bytes) bytes ≡ rest → eqb (length digits) 0 ≡ false → digits_value 10 digits ≡ n
    → ltb n (2 ^ 127 + sign) ≡ true → digits_at sign bytes ≡ Ok (signed sign n, rest)
unfolding digits_at
digits_by sign n bytes digits rest e f some v fits = rw (e, f, some, v, fits) refl

digits_again : (sign n : ℕ) (rest : List ℕ) → sign ≤ 1 → n < 2 ^ 127 + sign → stops is_digit rest ≡ true
    → digits_at sign (decimal n ++ rest) ≡ Ok (signed sign n, rest)
digits_again sign n rest one fits s =
    let numeral = decimal_is_IsNumeral_wide n (omega arith) in
    let some = numeral.0.0 in
    digits_by sign n (decimal n ++ rest) (decimal n) rest (run_is is_digit (decimal n) rest (decimal_digits n) s)
    (run_rest is_digit (decimal n) rest (decimal_digits n) s)
    (ne_eqb (length (decimal n)) 0 (λ e. omega arith)) numeral.1 (lt-ltb n (2 ^ 127 + sign) fits)

-- a number begins with a digit
pub record Begins (test : ℕ → Bool) (text : List ℕ) : Type 0 where
  pub first : ℕ
  pub more : List ℕ
  pub bytes : text ≡ first ∷ more
  pub passes : test first ≡ true

begins : (test : ℕ → Bool) (bytes : List ℕ) → 0 < length bytes → list_all test bytes ≡ true → Begins test bytes
begins test [] some h = absurd (omega arith)
begins test (c ∷ cs) some h = record { first = c; more = cs; bytes = refl; passes = (and_parts (test c) (list_all test cs) h).0 }

pub decimal_begins : (n : ℕ) → n < 10 ^ 64 → Begins is_digit (decimal n)
decimal_begins n h = begins is_digit (decimal n) (decimal_is_IsNumeral_wide n h).0.0 (decimal_digits n)

no_minus : (c : ℕ) → is_digit c ≡ true → eqb c 45 ≡ false
no_minus c h = grind (arith, nat_tests)

integer_by : (c : ℕ) (cs bytes : List ℕ) → bytes ≡ c ∷ cs → eqb c 45 ≡ false → integer_at bytes ≡ digits_at 0 bytes
unfolding integer_at
integer_by c cs bytes e h = rw (e, h) refl

minus_by : (bytes : List ℕ) → integer_at (45 ∷ bytes) ≡ digits_at 1 bytes
unfolding integer_at
minus_by bytes = refl

pub integer_again : (z : ℤ) (rest : List ℕ) → FitsSigned w128 z → stops is_digit rest ≡ true
    → integer_at (signed_decimal z ++ rest) ≡ Ok (z, rest)
integer_again (pos n) rest fits s =
    let b = decimal_begins n (omega arith) in
    integer_by b.first (b.more ++ rest) (decimal n ++ rest) (ap (λ (bs : List ℕ). bs ++ rest) b.bytes) (no_minus b.first b.passes)
    ∙ digits_again 0 n rest (omega arith) (omega arith) s
integer_again (negsuc n) rest fits s = minus_by (decimal (suc n) ++ rest) ∙ digits_again 1 (suc n) rest (omega arith) (omega arith) s

byte_by : (n : ℕ) (bytes rest : List ℕ) → integer_at bytes ≡ Ok (pos n, rest) → ltb n 256 ≡ true → byte_at bytes ≡ Ok (n, rest)
unfolding byte_at
byte_by n bytes rest e h = rw (e, h) refl

pub byte_again : (n : ℕ) (rest : List ℕ) → n < 256 → stops is_digit rest ≡ true → byte_at (decimal n ++ rest) ≡ Ok (n, rest)
byte_again n rest h s = byte_by n (decimal n ++ rest) rest (integer_again (pos n) rest (omega arith) s) (lt-ltb n 256 h)
