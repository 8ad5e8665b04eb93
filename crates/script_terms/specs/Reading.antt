-- Terms as a script writes them: reading from the left, up to the first fault.
use Rattle.std.specs.Prelude.{◌≡◌, ℕ, zero, suc, ◌+◌, ◌^◌, ◌==◌, ◌||◌, ℤ, List, [], ◌∷◌, ◌++◌, length, drop, Option}
use Rattle.std.specs.Prelude.{None, Some, Result, Ok, Err, MatchResult, nat_lt, nat_le, if◌then◌else◌, encode_utf8}
use Rattle.std.specs.List.{take_while, prefix_len}
use Rattle.std.specs.Str.Parse.{digits_value}
use Rattle.erl_term.specs.Reading.{◌>>=◌}
use Rattle.erl_term.specs.Data.{Data, int, atom, tuple, list, binary, no_items, item, joined}
use Rattle.erl_term.specs.View.{items_of}
use Rattle.erl_term.specs.Numbers.{signed}
use Rattle.erl_term.specs.Text.{is_atom_text}
use Rattle.erl_term.specs.Canonical.{is_byte, byte_of, levels_of}
use Rattle.script_terms.specs.declared.fault.TermFault.{TermFault}
use Rattle.script_terms.specs.declared.fault.TermFault.TheVariants.{UnknownName, BadTerm}
use Rattle.script_terms.specs.declared.names.Named.{Named}
use Rattle.script_terms.specs.Words.{is_lower, is_digit, is_hex_digit, is_name_byte, is_atom_byte, is_name, is_scalar}
use Rattle.script_terms.specs.Binding.{Look, named_data}

-- a value and the bytes after it, or the first fault
abbrev pub Read : Type 0 → Type 0
Read A = Result (A × List ℕ) TermFault

-- the result of a function, seen by view, is the result of reading
abbrev pub Answers : {X Y : Type 0} → (X → Y) → Result X TermFault → Result Y TermFault → Type 0
Answers view result read = MatchResult result (λ x. read ≡ Ok (view x)) (λ e. read ≡ Err e)

-- the next byte
abbrev pub next_at : List ℕ → Read ℕ
next_at [] = Err BadTerm
next_at (c ∷ cs) = Ok (c, cs)

-- this byte
abbrev pub mark_at : ℕ → List ℕ → Read ℕ
mark_at mark bytes = next_at bytes >>= λ c. if c.0 == mark then Ok c else Err BadTerm

-- ---- integers: an optional -, and digits. Leading zeros are read, and -0 is 0

-- digits behind the sign, which is 1 for minus
unfoldable pub digits_at : ℕ → List ℕ → Read ℤ
digits_at sign bytes =
    let digits = take_while is_digit bytes in
    if length digits == 0 then Err BadTerm
    else if nat_lt (digits_value 10 digits) (2 ^ 127 + sign) then Ok
    (signed sign (digits_value 10 digits), drop (prefix_len is_digit bytes) bytes)
    else Err BadTerm

unfoldable pub integer_at : List ℕ → Read ℤ
integer_at bytes = next_at bytes >>= λ c. if c.0 == 45 then digits_at 1 c.1 else digits_at 0 bytes

-- ---- atoms

-- the text of an atom is UTF-8 of at most 255 characters
abbrev pub atom_of : List ℕ × List ℕ → Read (List ℕ)
atom_of text = if is_atom_text text.0 then Ok text else Err BadTerm

unfoldable pub bare_at : List ℕ → Read (List ℕ)
bare_at bytes = atom_of (take_while is_atom_byte bytes, drop (prefix_len is_atom_byte bytes) bytes)

-- behind \x: the number of a character in braces, in lower-case hexadecimal
unfoldable pub code_at : List ℕ → Read (List ℕ)
code_at bytes =
    mark_at 123 bytes >>= λ front.
    let digits = take_while is_hex_digit front.1 in
    if length digits == 0 then Err BadTerm
    else if is_scalar (digits_value 16 digits) then
    (mark_at 125 (drop (prefix_len is_hex_digit front.1) front.1) >>= λ close. Ok (encode_utf8 (digits_value 16 digits), close.1))
    else Err BadTerm

-- behind a \: ', \ or the number of a character
unfoldable pub escape_at : List ℕ → Read (List ℕ)
escape_at bytes =
    next_at bytes >>= λ c.
    if (c.0 == 39) || (c.0 == 92) then Ok (c.0 ∷ [], c.1)
    else if c.0 == 120 then code_at c.1
    else Err BadTerm

-- the text between quotes, up to the quote behind it: each \ begins an escape, and all else stands for
-- itself. There are at most so many pieces
unfoldable pub pieces_at : ℕ → List ℕ → Read (List ℕ)
pieces_at zero bytes = Err BadTerm
pieces_at (suc most) bytes =
    next_at bytes >>= λ c.
    if c.0 == 39 then Ok ([], c.1)
    else if c.0 == 92 then (escape_at c.1 >>= λ piece. pieces_at most piece.1 >>= λ text. Ok (piece.0 ++ text.0, text.1))
    else (pieces_at most c.1 >>= λ text. Ok (c.0 ∷ text.0, text.1))

-- behind the first quote
unfoldable pub quoted_at : List ℕ → Read (List ℕ)
quoted_at bytes = pieces_at (length bytes) bytes >>= atom_of

-- ---- items in brackets

-- one or more of what `one` reads, of which there are at most so many, with commas between them, and the mark behind them
unfoldable pub separated_at : {A : Type 0} → (List ℕ → Read A) → ℕ → ℕ → List ℕ → Read (List A)
separated_at one close zero bytes = Err BadTerm
separated_at one close (suc most) bytes =
    one bytes >>= λ t.
    next_at t.1 >>= λ c.
    if c.0 == 44 then (separated_at one close most c.1 >>= λ ts. Ok (t.0 ∷ ts.0, ts.1))
    else if c.0 == close then Ok (t.0 ∷ [], c.1)
    else Err BadTerm

-- ---- binaries, behind the first <

-- an integer of a byte
unfoldable pub byte_at : List ℕ → Read ℕ
byte_at bytes = integer_at bytes >>= λ z. if is_byte (int z.0) then Ok (byte_of (int z.0), z.1) else Err BadTerm

-- bytes with commas between them, and >>
unfoldable pub binary_at : List ℕ → Read (List ℕ)
binary_at bytes =
    mark_at 60 bytes >>= λ front.
    next_at front.1 >>= λ c.
    if c.0 == 62 then (mark_at 62 c.1 >>= λ end. Ok ([], end.1))
    else (separated_at byte_at 62 (length front.1) front.1 >>= λ bs. mark_at 62 bs.1 >>= λ end. Ok (bs.0, end.1))

-- ---- names, behind the $

abbrev pub found : Option Named → List ℕ → Read Named
found None rest = Err UnknownName
found (Some named) rest = Ok (named, rest)

unfoldable pub named_at : Look → List ℕ → Read Named
named_at look bytes =
    let name = take_while is_name_byte bytes in
    if is_name name then found (look name) (drop (prefix_len is_name_byte bytes) bytes) else Err BadTerm

-- ---- terms

-- a value that is read, as a term
abbrev pub seen : {A : Type 0} → (A → Data) → Read A → Read Data
seen f read = read >>= λ x. Ok (f x.0, x.1)

-- a term that opens no tuple and no list, told by its first byte
unfoldable pub leaf_at : Look → ℕ → List ℕ → List ℕ → Read Data
leaf_at look first rest bytes =
    if first == 36 then seen named_data (named_at look rest)
    else if first == 39 then seen atom (quoted_at rest)
    else if first == 60 then seen binary (binary_at rest)
    else if is_lower first then seen atom (bare_at bytes)
    else seen int (integer_at bytes)

-- behind the brace
unfoldable pub tuple_at : (List ℕ → Read Data) → List ℕ → Read Data
tuple_at one bytes =
    next_at bytes >>= λ c.
    if c.0 == 125 then Ok (tuple no_items, c.1)
    else (separated_at one 125 (length bytes) bytes >>= λ ts. Ok (tuple (items_of ts.0), ts.1))

-- behind a bracket: nothing but the bracket that closes it, or cells
abbrev pub list_at : (List ℕ → Read Data) → List ℕ → Read Data
list_at cells bytes = next_at bytes >>= λ c. if c.0 == 93 then Ok (list no_items, c.1) else cells bytes

-- behind a |: a list, which is no deeper than the list whose tail it is, or another term
abbrev pub tail_at : (List ℕ → Read Data) → (List ℕ → Read Data) → List ℕ → Read Data
tail_at one cells bytes = next_at bytes >>= λ c. if c.0 == 91 then list_at cells c.1 else one bytes

-- one item or more, with commas between them, a tail where there is a |, and the bracket behind them
unfoldable pub cells_at : (List ℕ → Read Data) → ℕ → List ℕ → Read Data
cells_at one zero bytes = Err BadTerm
cells_at one (suc most) bytes =
    one bytes >>= λ t.
    next_at t.1 >>= λ c.
    if c.0 == 44 then (cells_at one most c.1 >>= λ u. Ok (joined (item t.0 no_items) u.0, u.1))
    else if c.0 == 93 then Ok (list (item t.0 no_items), c.1)
    else if c.0
    == 124 then (tail_at one (cells_at one most) c.1 >>= λ u. mark_at 93 u.1 >>= λ close. Ok (joined (item t.0 no_items) u.0, close.1))
    else Err BadTerm

-- a term in which so many brackets, { or [, may open one inside another, where `inner` reads what stands inside one
unfoldable pub term_with : Look → ℕ → (List ℕ → Read Data) → List ℕ → Read Data
term_with look brackets inner bytes =
    next_at bytes >>= λ c.
    if c.0 == 123 then (if brackets == 0 then Err BadTerm else tuple_at inner c.1)
    else if c.0 == 91 then (if brackets == 0 then Err BadTerm else list_at (cells_at inner (length c.1)) c.1)
    else leaf_at look c.0 c.1 bytes

unfoldable pub term_at : Look → ℕ → List ℕ → Read Data
term_at look zero bytes = term_with look 0 (λ _. Err BadTerm) bytes
term_at look (suc brackets) bytes = term_with look (suc brackets) (term_at look brackets) bytes

-- the term, with nothing behind it and with no more levels than a term may have
abbrev pub whole : Data × List ℕ → Result Data TermFault
whole (t, []) = if nat_le (levels_of t) 64 then Ok t else Err BadTerm
whole (t, c ∷ cs) = Err BadTerm

-- the term that a text is, or its first fault
unfoldable pub term_of : Look → List ℕ → Result Data TermFault
term_of look text = term_at look 64 text >>= whole
