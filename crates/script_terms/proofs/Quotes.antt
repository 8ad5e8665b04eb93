-- An atom that is printed is read again.
use Rattle.std.proofs.Common.{◌≡◌, ℕ, zero, suc, ◌%◌, ◌≤◌, ◌<◌, Bool, true, false, ◌||◌, eqb, ltb, cond, List, [], ◌∷◌, ◌++◌, codes}
use Rattle.std.proofs.Common.{length, drop, append_assoc, length-append, encode_utf8, Ok, refl, ap, ◌∙◌, arith, mod-lt, ne_eqb, chars}
use Rattle.std.specs.List.{list_all, flat_map, take_while, prefix_len}
use Rattle.std.specs.Fmt.{digits, digit_glyph}
use Rattle.std.specs.Str.Parse.{digits_value}
use Rattle.std.proofs.lemmas.Bool.{and_parts, ltb-true, eqb-true}
use Rattle.std.proofs.lemmas.Bool.Decides.{nat_tests}
use Rattle.std.proofs.lemmas.Fmt.{digits_is_IsNumeral}
use Rattle.std.proofs.lemmas.Str.{encode_ascii, encodes-chars}
use lib.Utf8.{encodes}
use Rattle.erl_term.specs.Text.{IsAtomText, is_atom_text}
use Rattle.erl_term.proofs.Texts.{is_atom_text-holds}
use Rattle.script_terms.specs.Words.{is_hex_digit, is_scalar}
use Rattle.script_terms.specs.Printing.{escaped}
use Rattle.script_terms.specs.Reading.{code_at, escape_at, pieces_at, quoted_at}
use Rattle.script_terms.proofs.Runs.{run_is, run_rest, digits_all, encode_all}

-- ---- the number of a character in braces

glyph_hex : (d : ℕ) → d < 16 → is_hex_digit (digit_glyph false d) ≡ true
glyph_hex d h = grind (arith, nat_tests)

hex_digits : (n : ℕ) → list_all is_hex_digit (digits 16 false n) ≡ true
hex_digits n = digits_all is_hex_digit 16 false (λ m. glyph_hex (m % 16) (mod-lt m (omega arith))) n

code_by : (n : ℕ) (bytes digits rest : List ℕ) → take_while is_hex_digit bytes ≡ digits
    → drop (prefix_len is_hex_digit bytes) bytes ≡ 125 ∷ rest → eqb (length digits) 0 ≡ false → digits_value 16 digits ≡ n
    → is_scalar n ≡ true → code_at (123 ∷ bytes) ≡ Ok (encode_utf8 n, rest)
unfolding code_at
code_by n bytes digits rest e f some v s = rw (e, f, some, v, s) refl

low_scalar : (n : ℕ) → n < 128 → is_scalar n ≡ true
low_scalar n h = grind (arith, nat_tests)

code_again : (n : ℕ) (rest : List ℕ) → n < 128 → code_at (123 ∷ (digits 16 false n ++ 125 ∷ rest)) ≡ Ok (encode_utf8 n, rest)
code_again n rest low =
    let numeral = digits_is_IsNumeral 16 false (omega arith) (omega arith) n (omega arith) in
    let some = numeral.0.0 in
    code_by n (digits 16 false n ++ 125 ∷ rest) (digits 16 false n) rest
    (run_is is_hex_digit (digits 16 false n) (125 ∷ rest) (hex_digits n) refl)
    (run_rest is_hex_digit (digits 16 false n) (125 ∷ rest) (hex_digits n) refl)
    (ne_eqb (length (digits 16 false n)) 0 (λ e. omega arith)) numeral.1 (low_scalar n low)

escape_mark : (c : ℕ) (rest : List ℕ) → (eqb c 39 || eqb c 92) ≡ true → escape_at (c ∷ rest) ≡ Ok (c ∷ [], rest)
unfolding escape_at
escape_mark c rest h = rw h refl

escape_code : (bytes : List ℕ) → escape_at (120 ∷ bytes) ≡ code_at bytes
unfolding escape_at
escape_code bytes = refl

-- ---- the text between quotes is read as x, with any bytes behind the last quote

abbrev IsReadAs : List ℕ → List ℕ × List ℕ → Type 0
IsReadAs bytes x = (most : ℕ) → length bytes ≤ most → pieces_at most bytes ≡ Ok x

last_quote : (rest : List ℕ) → IsReadAs (39 ∷ rest) ([], rest)
unfolding pieces_at
last_quote rest zero le = absurd (omega arith)
last_quote rest (suc most) le = refl

plain_piece : (c : ℕ) (bytes text rest : List ℕ) → eqb c 39 ≡ false → eqb c 92 ≡ false → IsReadAs bytes (text, rest)
    → IsReadAs (c ∷ bytes) (c ∷ text, rest)
unfolding pieces_at
plain_piece c bytes text rest quote back h zero le = absurd (omega arith)
plain_piece c bytes text rest quote back h (suc most) le = let e = h most (omega arith) in rw (quote, back, e) refl

abbrev is_plain : ℕ → Bool
is_plain c = cond (eqb c 39) false (cond (eqb c 92) false true)

plain_quote : (c : ℕ) → is_plain c ≡ true → eqb c 39 ≡ false
plain_quote c h = grind (arith, nat_tests)

plain_back : (c : ℕ) → is_plain c ≡ true → eqb c 92 ≡ false
plain_back c h = grind (arith, nat_tests)

plain_pieces : (piece bytes text rest : List ℕ) → list_all is_plain piece ≡ true → IsReadAs bytes (text, rest)
    → IsReadAs (piece ++ bytes) (piece ++ text, rest)
plain_pieces [] bytes text rest p h = h
plain_pieces (c ∷ cs) bytes text rest p h =
    let both = and_parts (is_plain c) (list_all is_plain cs) p in
    plain_piece c (cs ++ bytes) (cs ++ text) rest (plain_quote c both.0) (plain_back c both.0) (plain_pieces cs bytes text rest both.1 h)

escaped_piece : (behind piece bytes text rest : List ℕ) → escape_at behind ≡ Ok (piece, bytes) → length bytes ≤ length behind
    → IsReadAs bytes (text, rest) → IsReadAs (92 ∷ behind) (piece ++ text, rest)
unfolding pieces_at
escaped_piece behind piece bytes text rest e shorter h zero le = absurd (omega arith)
escaped_piece behind piece bytes text rest e shorter h (suc most) le = let k = h most (omega arith) in rw (e, k) refl

marked : (c : ℕ) → (eqb c 39 || eqb c 92) ≡ true → c < 128
marked c h = grind (arith, nat_tests)

unmarked : (c : ℕ) → (eqb c 39 || eqb c 92) ≡ false → is_plain c ≡ true
unmarked c h = grind (arith, nat_tests)

plain_high : (b : ℕ) → 128 ≤ b → is_plain b ≡ true
plain_high b h = grind (arith, nat_tests)

-- one character, and what stands behind it
char_again : (c : ℕ) (bytes text rest : List ℕ) → IsReadAs bytes (text, rest) → IsReadAs (escaped c ++ bytes) (encode_utf8 c ++ text, rest)
char_again c bytes text rest h = by (eqb c 39 || eqb c 92) refl (ltb c 32) refl (eqb c 127) refl
  where
    by_mark : (eqb c 39 || eqb c 92) ≡ true → IsReadAs (92 ∷ c ∷ bytes) (encode_utf8 c ++ text, rest)
    by_mark m =
        let one = encode_ascii c (marked c m) in
        rw one (escaped_piece (c ∷ bytes) (c ∷ []) bytes text rest (escape_mark c bytes m) (omega arith) h)

    by_code : c < 128 → IsReadAs ((codes "\\x{" ++ digits 16 false c ++ codes "}") ++ bytes) (encode_utf8 c ++ text, rest)
    by_code low =
        let e : (digits 16 false c ++ codes "}") ++ bytes ≡ digits 16 false c ++ 125 ∷ bytes =
        append_assoc (digits 16 false c) (codes "}") bytes in
        let all =
        escaped_piece (120 ∷ 123 ∷ (digits 16 false c ++ 125 ∷ bytes)) (encode_utf8 c) bytes text rest
        (escape_code (123 ∷ (digits 16 false c ++ 125 ∷ bytes)) ∙ code_again c bytes low)
        (omega (arith, length-append (digits 16 false c) (125 ∷ bytes))) h in
        rw e all

    by : (x : Bool) → (eqb c 39 || eqb c 92) ≡ x → (y : Bool) → ltb c 32 ≡ y → (z : Bool) → eqb c 127 ≡ z
        → IsReadAs
        (cond x (92 ∷ c ∷ []) (cond (y || z) (codes "\\x{" ++ digits 16 false c ++ codes "}") (encode_utf8 c)) ++ bytes)
        (encode_utf8 c ++ text, rest)
    by true m y f z g = by_mark m
    by false m true f z g = let l = ltb-true c 32 f in by_code (omega arith)
    by false m false f true g = let l = eqb-true c 127 g in by_code (omega arith)
    by false m false f false g = plain_pieces (encode_utf8 c) bytes text rest (encode_all is_plain plain_high c (λ _. unmarked c m)) h

chars_again : (cs rest : List ℕ) → IsReadAs (flat_map escaped cs ++ 39 ∷ rest) (encodes cs, rest)
chars_again [] rest = last_quote rest
chars_again (c ∷ cs) rest =
    rw (append_assoc (escaped c) (flat_map escaped cs) (39 ∷ rest))
    (char_again c (flat_map escaped cs ++ 39 ∷ rest) (encodes cs) rest (chars_again cs rest))

atom_by : (bytes text rest : List ℕ) → pieces_at (length bytes) bytes ≡ Ok (text, rest) → is_atom_text text ≡ true
    → quoted_at bytes ≡ Ok (text, rest)
unfolding quoted_at
atom_by bytes text rest e t = rw (e, t) refl

-- behind the first quote
pub quoted_again : (a rest : List ℕ) → IsAtomText a → quoted_at (flat_map escaped (chars a) ++ 39 ∷ rest) ≡ Ok (a, rest)
quoted_again a rest t =
    let same : encodes (chars a) ≡ a = encodes-chars a t.utf8 in
    let all = chars_again (chars a) rest (length (flat_map escaped (chars a) ++ 39 ∷ rest)) (omega arith) in
    atom_by (flat_map escaped (chars a) ++ 39 ∷ rest) a rest (all ∙ ap (λ (text : List ℕ). Ok (text, rest)) same)
    (is_atom_text-holds a t.utf8 t.short)
