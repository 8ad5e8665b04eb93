-- Items printed in a row, with commas between, are read again: so are the numbers of a binary.
use Rattle.std.proofs.Common.{◌≡◌, ℕ, zero, suc, ◌≤◌, ◌<◌, true, false, eqb, List, []}
use Rattle.std.proofs.Common.{◌∷◌, ◌++◌, codes, length, append_assoc, length-append, Ok, refl}
use Rattle.std.proofs.Common.{ap, ◌∙◌, arith, decimal}
use Rattle.std.specs.List.{flat_map}
use Rattle.std.proofs.lemmas.Bool.Decides.{nat_tests}
use Rattle.erl_term.specs.Numbers.{AreBytes}
use Rattle.script_terms.specs.Words.{is_digit, is_atom_byte}
use Rattle.script_terms.specs.Printing.{numbers_text, commas_text}
use Rattle.script_terms.specs.Reading.{Read, next_at, byte_at, separated_at, binary_at}
use Rattle.script_terms.proofs.Runs.{stops}
use Rattle.script_terms.proofs.Numerals.{decimal_begins, byte_again}

-- ---- in a row, with commas between

-- a text that is read as x before any mark
abbrev pub Again : {A : Type 0} → (List ℕ → Read A) → (A → List ℕ) → A → Type 0
Again one text x = (rest : List ℕ) → stops is_atom_byte rest ≡ true → one (text x ++ rest) ≡ Ok (x, rest)

abbrev pub AllAgain : {A : Type 0} → (List ℕ → Read A) → (A → List ℕ) → List A → Type 0
AllAgain one text [] = Unit {0}
AllAgain one text (x ∷ xs) = Again one text x × AllAgain one text xs

-- each behind a comma
abbrev pub behind_commas : {A : Type 0} → (A → List ℕ) → List A → List ℕ
behind_commas text xs = flat_map (λ x. 44 ∷ text x) xs

module _ {A : Type 0} (one : List ℕ → Read A) (text : A → List ℕ) (close : ℕ) where
  pub row_again : (x : A) (xs : List A) (most : ℕ) (rest : List ℕ) → eqb close 44 ≡ false
      → stops is_atom_byte (close ∷ rest) ≡ true → Again one text x → AllAgain one text xs → length xs < most
      → separated_at one close most (text x ++ (behind_commas text xs ++ close ∷ rest)) ≡ Ok (x ∷ xs, rest)
  unfolding separated_at
  row_again x xs zero rest other s h hs le = absurd (omega arith)
  row_again x [] (suc most) rest other s h hs le =
      let e = h (close ∷ rest) s in
      let same : eqb close close ≡ true = grind (arith, nat_tests) in
      rw (e, other, same) refl
  row_again x (y ∷ ys) (suc most) rest other s h hs le =
      let e = h (44 ∷ (text y ++ (behind_commas text ys ++ close ∷ rest))) refl in
      let more = row_again y ys most rest other s hs.0 hs.1 (omega arith) in
      rw (append_assoc (text y) (behind_commas text ys) (close ∷ rest), e, more) refl

pub commas_len : {A : Type 0} (text : A → List ℕ) (xs : List A) → length xs ≤ length (behind_commas text xs)
commas_len text [] = omega arith
commas_len text (x ∷ xs) = let more = commas_len text xs in omega (arith, length-append (text x) (behind_commas text xs))

pub digit_stops : (rest : List ℕ) → stops is_atom_byte rest ≡ true → stops is_digit rest ≡ true
digit_stops [] s = refl
digit_stops (c ∷ cs) s = grind (arith, nat_tests)

-- ---- binaries, behind the first <

numbers_again : (ns : List ℕ) → AreBytes ns → AllAgain byte_at decimal ns
numbers_again [] h = tt
numbers_again (n ∷ ns) h = (λ rest s. byte_again n rest (h 0) (digit_stops rest s), numbers_again ns (λ i. h (suc i)))

binary_none : (rest : List ℕ) → binary_at (60 ∷ 62 ∷ 62 ∷ rest) ≡ Ok ([], rest)
unfolding binary_at
binary_none rest = refl

binary_by : (first : ℕ) (more bytes ns rest : List ℕ) → next_at bytes ≡ Ok (first, more) → eqb first 62 ≡ false
    → separated_at byte_at 62 (length bytes) bytes ≡ Ok (ns, 62 ∷ rest) → binary_at (60 ∷ bytes) ≡ Ok (ns, rest)
unfolding binary_at
binary_by first more bytes ns rest e other h = rw (e, other, h) refl

digit_no_angle : (c : ℕ) → is_digit c ≡ true → eqb c 62 ≡ false
digit_no_angle c h = grind (arith, nat_tests)

pub binary_again : (a rest : List ℕ) → AreBytes a → binary_at (60 ∷ ((commas_text a ++ codes ">>") ++ rest)) ≡ Ok (a, rest)
binary_again [] rest h = binary_none rest
binary_again (n ∷ ns) rest h =
    let b = decimal_begins n (let k = h 0 in omega arith) in
    let all = numbers_again (n ∷ ns) h in
    let bytes = decimal n ++ (numbers_text 44 ns ++ 62 ∷ 62 ∷ rest) in
    let same : ((decimal n ++ numbers_text 44 ns) ++ codes ">>") ++ rest ≡ bytes =
    append_assoc (decimal n ++ numbers_text 44 ns) (codes ">>") rest ∙ append_assoc (decimal n) (numbers_text 44 ns) (62 ∷ 62 ∷ rest) in
    let len = commas_len decimal ns in
    let row =
    row_again byte_at decimal 62 n ns (length bytes) (62 ∷ rest) refl refl all.0 all.1 (omega
    (arith, length-append (decimal n) (numbers_text 44 ns ++ 62 ∷ 62 ∷ rest), length-append (numbers_text 44 ns) (62 ∷ 62 ∷ rest))) in
    rw same (binary_by b.first (b.more ++ (numbers_text 44 ns ++ 62 ∷ 62 ∷ rest)) bytes (n ∷ ns) rest
    (ap (λ (bs : List ℕ). next_at (bs ++ (numbers_text 44 ns ++ 62 ∷ 62 ∷ rest))) b.bytes)
    (digit_no_angle b.first b.passes) row)
