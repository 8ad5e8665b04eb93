-- Words that write a number.
use Rattle.std.proofs.Common.{◌≡◌, ℕ, zero, suc, ◌^◌, ◌<◌, ◌&&◌, eqb, Bool, true, false, cond, not, nat_le, nat_lt, List, [], ◌∷◌, length, Result, Ok, Err, refl, sym, ap, subst, ◌∙◌, arith}
use Rattle.std.proofs.lemmas.Bool.{and_parts, le-leb, leb-true, ltb-true}
use Rattle.std.specs.List.{list_all}
use Rattle.std.specs.Str.Parse.{ParsesUnsigned, digits_value}
use Rattle.std.proofs.lemmas.Str.Parse.{IsDigitsTest, numerals_by_value, parse_digits}
use Rattle.script_lines.specs.Connections.{is_numeral, number_in}
use Rattle.script_lines.specs.declared.reason.Reason.{Reason}
use Rattle.script_lines.specs.declared.reason.Reason.TheVariants.{WrongWords}
use Rattle.script_terms.specs.Words.{is_digit}

pub numeral_test : (word : List ℕ) (empty all : Bool) → empty ≡ false → empty ≡ eqb (length word) 0 → all ≡ list_all is_digit word
    → all ≡ is_numeral word
numeral_test word empty all h e a = a ∙ ap (λ b. not b && list_all is_digit word) (sym h ∙ e)

-- ---- a numeral that isn't read

abbrev AreDigits : List ℕ → Type 0
AreDigits ds = list_all is_digit ds ≡ true

are_digits : IsDigitsTest AreDigits
are_digits = record {
  empty = refl;
  parts = λ c cs e.
      let k = and_parts (is_digit c) (list_all is_digit cs) e in
      let m = and_parts (nat_le 48 c) (nat_le c 57) k.0 in
      ((leb-true 48 c m.0, leb-true c 57 m.1), k.1);
  more = λ c cs k e i. (le-leb 48 c k.0 i && le-leb c 57 k.1 i) && e i;
}

number_not : (word : List ℕ) (numeral fits : Bool) → is_numeral word ≡ numeral → nat_lt (digits_value 10 word) (2 ^ 64) ≡ fits → fits ≡ false
    → Err WrongWords ≡ number_in (2 ^ 64) word
number_not word numeral fits n f h =
    ap (λ b. cond b (Ok (digits_value 10 word)) (Err WrongWords)) (sym (and_false (is_numeral word)) ∙ ap (λ b. is_numeral word && b) (sym (f ∙ h)))
  where
    and_false : (b : Bool) → (b && false) ≡ false
    and_false true = refl
    and_false false = refl

too_great : (word : List ℕ) → (digits_value 10 word < 2 ^ 64 → ⊥) → nat_lt (digits_value 10 word) (2 ^ 64) ≡ false
too_great word never = go (nat_lt (digits_value 10 word) (2 ^ 64)) refl
  where
    go : (b : Bool) → nat_lt (digits_value 10 word) (2 ^ 64) ≡ b → nat_lt (digits_value 10 word) (2 ^ 64) ≡ false
    go true e = absurd (never (ltb-true (digits_value 10 word) (2 ^ 64) e))
    go false e = e

pub not_parsed : {E : Type 0} (word : List ℕ) (e : E) → is_numeral word ≡ true → ParsesUnsigned 64 10 word (Err e)
    → Err WrongWords ≡ number_in (2 ^ 64) word
not_parsed word e n h =
    let parts = and_parts (not (eqb (length word) 0)) (list_all is_digit word) n in
    let some : 0 < length word = not_empty word parts.0 in
    number_not word true _ n refl
    (too_great word (λ fits. parse_digits (numerals_by_value AreDigits are_digits) 64 word (Err e) h parts.1 (some, fits)))
  where
    not_empty : (word : List ℕ) → not (eqb (length word) 0) ≡ true → 0 < length word
    not_empty [] h = let no : false ≡ true = h in cc
    not_empty (c ∷ cs) h = omega arith
