-- The text between quotes, as a loop reads it.
use Rattle.std.proofs.Common.{◌≡◌, ℕ, zero, suc, ◌-◌, ◌+◌, ◌≤◌, ◌<◌, Bool, true, false, eqb, cond, List, [], ◌∷◌, ◌++◌}
use Rattle.std.proofs.Common.{length, append_assoc, Result, Ok, Err, MatchResult, refl, sym, ap, ◌∙◌, arith, ◌||◌}
use Rattle.std.specs.List.{take_while, prefix_len}
use Rattle.std.specs.Str.Parse.{digits_value}
use Rattle.std.specs.Prelude.{drop, encode_utf8}
use Rattle.std.specs.Str.{is_utf8}
use Rattle.std.proofs.lemmas.List.{append-nil, length-append}
use Rattle.std.proofs.lemmas.Bool.{leb-true}
use Rattle.std.proofs.lemmas.Str.{IsUtf8-from_is_utf8}
use Rattle.erl_term.specs.Reading.{◌>>=◌}
use Rattle.erl_term.specs.Text.{is_atom_text}
use Rattle.erl_term.proofs.Utf8.{atom_bytes}
use Rattle.script_terms.specs.declared.fault.TermFault.{TermFault}
use Rattle.script_terms.specs.declared.fault.TermFault.TheVariants.{BadTerm}
use Rattle.script_terms.specs.Words.{is_hex_digit, is_scalar}
use Rattle.script_terms.specs.Reading.{Read, next_at, mark_at, atom_of, code_at, escape_at, pieces_at}
use Rattle.script_terms.proofs.Separated.{with_front}

-- ---- the one fault here is a bad term

abbrev OnlyBad : {A : Type 0} → Result A TermFault → Type 0
OnlyBad r = MatchResult r (λ _. Unit {0}) (λ e. e ≡ BadTerm)

bad_then : {A B : Type 0} (r : Result A TermFault) (f : A → Result B TermFault) → OnlyBad r → ((x : A) → OnlyBad (f x)) → OnlyBad (r >>= f)
bad_then (Ok x) f h k = k x
bad_then (Err e) f h k = h

bad_if : {A : Type 0} (b : Bool) (x y : Result A TermFault) → OnlyBad x → OnlyBad y → OnlyBad (cond b x y)
bad_if true x y h k = h
bad_if false x y h k = k

bad_next : (bytes : List ℕ) → OnlyBad (next_at bytes)
bad_next [] = refl
bad_next (c ∷ cs) = tt

bad_mark : (mark : ℕ) (bytes : List ℕ) → OnlyBad (mark_at mark bytes)
bad_mark mark bytes =
    bad_then (next_at bytes) (λ c. cond (eqb c.0 mark) (Ok c) (Err BadTerm)) (bad_next bytes)
    (λ c. bad_if (eqb c.0 mark) (Ok c) (Err BadTerm) tt refl)

abbrev after_code : ℕ → List ℕ → Read (List ℕ)
after_code value rest = mark_at 125 rest >>= λ close. Ok (encode_utf8 value, close.1)

bad_after : (value : ℕ) (rest : List ℕ) → OnlyBad (after_code value rest)
bad_after value rest = by (mark_at 125 rest) (bad_mark 125 rest)
  where
    by : (r : Read ℕ) → OnlyBad r → OnlyBad {A = List ℕ × List ℕ} (r >>= λ close. Ok (encode_utf8 value, close.1))
    by (Ok x) h = tt
    by (Err e) h = h

abbrev number_at : List ℕ → Read (List ℕ)
number_at front =
    cond (eqb (length (take_while is_hex_digit front)) 0) (Err BadTerm) (cond
    (is_scalar (digits_value 16 (take_while is_hex_digit front)))
    (after_code (digits_value 16 (take_while is_hex_digit front)) (drop (prefix_len is_hex_digit front) front)) (Err BadTerm))

bad_number : (front : List ℕ) → OnlyBad (number_at front)
bad_number front =
    let value = digits_value 16 (take_while is_hex_digit front) in
    let after = after_code value (drop (prefix_len is_hex_digit front) front) in
    bad_if (eqb (length (take_while is_hex_digit front)) 0) (Err BadTerm) (cond (is_scalar value) after (Err BadTerm)) refl
    (bad_if (is_scalar value) after (Err BadTerm) (bad_after value (drop (prefix_len is_hex_digit front) front)) refl)

bad_code : (bytes : List ℕ) → OnlyBad (code_at bytes)
unfolding code_at
bad_code bytes = by (mark_at 123 bytes) (bad_mark 123 bytes)
  where
    by : (r : Read ℕ) → OnlyBad r → OnlyBad {A = List ℕ × List ℕ} (r >>= λ front. number_at front.1)
    by (Ok front) h = bad_number front.1
    by (Err e) h = h

bad_escape : (bytes : List ℕ) → OnlyBad (escape_at bytes)
unfolding escape_at
bad_escape [] = refl
bad_escape (c ∷ cs) =
    let rest : Read (List ℕ) = cond (eqb c 120) (code_at cs) (Err BadTerm) in
    bad_if (eqb c 39 || eqb c 92) (Ok (c ∷ [], cs)) rest tt (bad_if (eqb c 120) (code_at cs) (Err BadTerm) (bad_code cs) refl)

abbrev behind_piece : List ℕ → Read (List ℕ) → Read (List ℕ)
behind_piece piece r = r >>= λ text. Ok (piece ++ text.0, text.1)

bad_more : (piece : List ℕ) (r : Read (List ℕ)) → OnlyBad r → OnlyBad (behind_piece piece r)
bad_more piece (Ok x) h = tt
bad_more piece (Err e) h = h

bad_escaped : (n : ℕ) (r : Read (List ℕ)) → ((bytes : List ℕ) → OnlyBad (pieces_at n bytes)) → OnlyBad r
    → OnlyBad {A = List ℕ × List ℕ} (r >>= λ piece. behind_piece piece.0 (pieces_at n piece.1))
bad_escaped n (Ok piece) k h = bad_more piece.0 (pieces_at n piece.1) (k piece.1)
bad_escaped n (Err e) k h = h

bad_pieces : (n : ℕ) (bytes : List ℕ) → OnlyBad (pieces_at n bytes)
unfolding pieces_at
bad_pieces zero bytes = refl
bad_pieces (suc n) [] = refl
bad_pieces (suc n) (c ∷ cs) =
    let escaped : Read (List ℕ) = escape_at cs >>= λ piece. behind_piece piece.0 (pieces_at n piece.1) in
    let plain : Read (List ℕ) = behind_piece (c ∷ []) (pieces_at n cs) in
    bad_if (eqb c 39) (Ok ([], cs)) (cond (eqb c 92) escaped plain) tt
    (bad_if (eqb c 92) escaped plain
    (bad_escaped n (escape_at cs) (bad_pieces n) (bad_escape cs)) (bad_more (c ∷ []) (pieces_at n cs) (bad_pieces n cs)))

-- ---- one piece after the other

pub atom_length : (text : List ℕ) → is_atom_text text ≡ true → length text ≤ 1020
atom_length text e = by (is_utf8 text) refl e
  where
    by : (b : Bool) → is_utf8 text ≡ b → is_atom_text text ≡ true → length text ≤ 1020
    by true u h = atom_bytes text (record { utf8 = IsUtf8-from_is_utf8 text u; short = leb-true _ _ (sym (rw u refl) ∙ h) })
    by false u h = absurd (let k : false ≡ true = sym (rw u refl) ∙ h in cc)

-- a text that is too long is no atom, whatever follows
pub too_long : (front : List ℕ) (read : Read (List ℕ)) → 1020 < length front → OnlyBad read
    → (with_front front read >>= atom_of) ≡ Err BadTerm
too_long front (Err e) long bad = ap Err bad
too_long front (Ok x) long bad = by (is_atom_text (front ++ x.0)) refl
  where
    by : (b : Bool) → is_atom_text (front ++ x.0) ≡ b → atom_of (front ++ x.0, x.1) ≡ Err BadTerm
    by true e = absurd (let le = atom_length (front ++ x.0) e in omega (arith, length-append front x.0))
    by false e = rw e refl

regroup : (front piece : List ℕ) (read : Read (List ℕ))
    → with_front front (read >>= λ x. Ok (piece ++ x.0, x.1)) ≡ with_front (front ++ piece) read
regroup front piece (Ok x) = ap (λ (ts : List ℕ). Ok (ts, x.1)) (sym (append_assoc front piece x.0))
regroup front piece (Err f) = refl

-- the text so far, and what is still read
abbrev pub goes : List ℕ → ℕ → ℕ → List ℕ → Read (List ℕ)
goes front n i rest = with_front front (pieces_at (n - i) rest)

pub piece_plain : (front : List ℕ) (n i c : ℕ) (rest after : List ℕ) → i < n → next_at rest ≡ Ok (c, after) → eqb c 39 ≡ false
    → eqb c 92 ≡ false
    → goes front n i rest ≡ goes (front ++ c ∷ []) n (i + 1) after
unfolding pieces_at
piece_plain front n i c rest after lt h quote back =
    let e : n - i ≡ suc (n - (i + 1)) = omega arith in
    rw (e, h, quote, back) (regroup front (c ∷ []) (pieces_at (n - (i + 1)) after))

pub piece_escaped : (front : List ℕ) (n i c : ℕ) (rest after piece behind : List ℕ) → i < n → next_at rest ≡ Ok (c, after)
    → eqb c 39 ≡ false → eqb c 92 ≡ true → escape_at after ≡ Ok (piece, behind)
    → goes front n i rest ≡ goes (front ++ piece) n (i + 1) behind
unfolding pieces_at
piece_escaped front n i c rest after piece behind lt h quote back k =
    let e : n - i ≡ suc (n - (i + 1)) = omega arith in
    rw (e, h, quote, back, k) (regroup front piece (pieces_at (n - (i + 1)) behind))

pub piece_bad : (front : List ℕ) (n i c : ℕ) (rest after : List ℕ) (f : TermFault) → i < n → next_at rest ≡ Ok (c, after)
    → eqb c 39 ≡ false → eqb c 92 ≡ true → escape_at after ≡ Err f
    → goes front n i rest ≡ Err f
unfolding pieces_at
piece_bad front n i c rest after f lt h quote back k =
    let e : n - i ≡ suc (n - (i + 1)) = omega arith in
    rw (e, h, quote, back, k) refl

pub next_bad : (front : List ℕ) (n i : ℕ) (rest : List ℕ) (f : TermFault) → i < n → next_at rest ≡ Err f → goes front n i rest ≡ Err f
unfolding pieces_at
next_bad front n i rest f lt h =
    let e : n - i ≡ suc (n - (i + 1)) = omega arith in
    rw (e, h) refl

pub piece_last : (front : List ℕ) (n i c : ℕ) (rest after : List ℕ) → i < n → next_at rest ≡ Ok (c, after) → eqb c 39 ≡ true
    → goes front n i rest ≡ Ok (front, after)
unfolding pieces_at
piece_last front n i c rest after lt h quote =
    let e : n - i ≡ suc (n - (i + 1)) = omega arith in
    rw (e, h, quote) (ap (λ (ts : List ℕ). Ok (ts, after)) (append-nil front))

pub piece_none : (front : List ℕ) (n i : ℕ) (rest : List ℕ) → n ≤ i → goes front n i rest ≡ Err BadTerm
unfolding pieces_at
piece_none front n i rest le =
    let e : n - i ≡ 0 = omega arith in
    rw e refl

pub no_room : (front : List ℕ) (n i : ℕ) (rest : List ℕ) → 1020 < length front → (goes front n i rest >>= atom_of) ≡ Err BadTerm
no_room front n i rest long = too_long front (pieces_at (n - i) rest) long (bad_pieces (n - i) rest)
