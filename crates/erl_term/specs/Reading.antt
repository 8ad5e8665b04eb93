-- Reading a term from the left, up to the first fault.
use Rattle.std.specs.Prelude.{◌≡◌, ◌≢◌, ℕ, zero, suc, ◌+◌, ◌-◌, ◌^◌, pos, List, [], ◌∷◌, length}
use Rattle.std.specs.Prelude.{take, drop, Result, Ok, Err, MatchResult, nat_lt, ◌==◌, if◌then◌else◌}
use Rattle.std.specs.Int.{w32, cast_signed}
use Rattle.byteorder.specs.Endian.{big_number}
pub use Rattle.readers.specs.Reading.{◌>>=◌}
use Rattle.erl_term.specs.declared.error.TermError.{TermError}
use Rattle.erl_term.specs.declared.error.TermError.TheVariants.{Cut, Malformed, OutOfProfile, TooDeep, OutOfMemory}
use Rattle.erl_term.specs.declared.term.Pid.{Pid}
use Rattle.erl_term.specs.declared.term.Reference.{Reference}
use Rattle.erl_term.specs.Data.{Data, int, atom, tuple, list, binary, pid, reference, Items, no_items, item, joined}
use Rattle.erl_term.specs.Numbers.{low_first, signed}
use Rattle.erl_term.specs.Text.{is_atom_text, may_become_text, latin_text}
use Rattle.erl_term.specs.Spelling.{byte_items}

-- A value and the bytes after it, or the first fault.
abbrev pub Read : Type 0 → Type 0
Read A = Result (A × List ℕ) TermError

-- What a function returned, seen by view, is what reading gives, unless memory ran out.
abbrev pub Fails : {Y : Type 0} → TermError → Result Y TermError → Type 0
Fails e read = e ≢ OutOfMemory → read ≡ Err e

abbrev pub Gives : {X Y : Type 0} → (X → Y) → Result X TermError → Result Y TermError → Type 0
Gives view result read = MatchResult result (λ x. read ≡ Ok (view x)) (λ e. Fails e read)

-- The same of a function that takes no memory.
abbrev pub Answers : {X Y : Type 0} → (X → Y) → Result X TermError → Result Y TermError → Type 0
Answers view result read = MatchResult result (λ x. read ≡ Ok (view x)) (λ e. read ≡ Err e)

-- the first n bytes
abbrev pub read_part : ℕ → List ℕ → Read (List ℕ)
read_part n bytes = if nat_lt (length bytes) n then Err Cut else Ok (take n bytes, drop n bytes)

-- a number of n bytes, the highest first
abbrev pub read_number : ℕ → List ℕ → Read ℕ
read_number n bytes = if nat_lt (length bytes) n then Err Cut else Ok (big_number n bytes, drop n bytes)

-- such a number that may be at most `most`: the fault comes as soon as the bytes that are there say more
abbrev pub read_bounded : TermError → ℕ → ℕ → List ℕ → Read ℕ
read_bounded fault most n bytes = if nat_lt most (big_number n bytes) then Err fault else read_number n bytes

unfoldable pub read_small : List ℕ → Read Data
read_small bytes = read_number 1 bytes >>= λ n. Ok (int (pos n.0), n.1)

unfoldable pub read_integer : List ℕ → Read Data
read_integer bytes = read_number 4 bytes >>= λ n. Ok (int (cast_signed w32 n.0), n.1)

unfoldable pub read_big : List ℕ → Read Data
read_big bytes =
    read_bounded (OutOfProfile 110) 16 1 bytes >>= λ n.
    read_bounded Malformed 1 1 n.1 >>= λ sign.
    read_part n.0 sign.1 >>= λ magnitude.
    if nat_lt (low_first magnitude.0) (2 ^ 127 + sign.0) then Ok
    (int (signed sign.0 (low_first magnitude.0)), magnitude.1) else Err (OutOfProfile 110)

-- the text of an atom, of n bytes
unfoldable pub read_text : ℕ → List ℕ → Read (List ℕ)
read_text n bytes =
    if nat_lt (length bytes) n then (if may_become_text n bytes then Err Cut else Err Malformed)
    else (if is_atom_text (take n bytes) then Ok (take n bytes, drop n bytes) else Err Malformed)

-- 255 characters are 1,020 bytes at most
unfoldable pub read_atom : ℕ → List ℕ → Read (List ℕ)
read_atom width bytes = read_bounded Malformed 1020 width bytes >>= λ n. read_text n.0 n.1

-- the letters of Latin-1, of which 255 are the most
unfoldable pub read_letters : ℕ → List ℕ → Read (List ℕ)
read_letters width bytes = read_bounded Malformed 255 width bytes >>= λ n. read_part n.0 n.1

unfoldable pub read_latin : ℕ → List ℕ → Read (List ℕ)
read_latin width bytes = read_letters width bytes >>= λ letters. Ok (latin_text letters.0, letters.1)

-- an atom with its tag, where a node must stand
unfoldable pub read_node : List ℕ → Read (List ℕ)
read_node bytes =
    read_number 1 bytes >>= λ tag.
    if tag.0 == 119 then read_atom 1 tag.1 else
    (if tag.0 == 118 then read_atom 2 tag.1 else
    (if tag.0 == 115 then read_latin 1 tag.1 else
    (if tag.0 == 100 then read_latin 2 tag.1 else Err Malformed)))

unfoldable pub read_pid : List ℕ → Read Pid
read_pid bytes =
    read_node bytes >>= λ node.
    read_number 4 node.1 >>= λ id.
    read_number 4 id.1 >>= λ serial.
    read_number 4 serial.1 >>= λ creation.
    Ok (record { node = node.0; id = id.0; serial = serial.0; creation = creation.0 }, creation.1)

-- 1 to 5
unfoldable pub read_word_count : List ℕ → Read ℕ
read_word_count bytes = read_bounded Malformed 5 2 bytes >>= λ n. if n.0 == 0 then Err Malformed else Ok n

-- so many numbers of four bytes
unfoldable pub read_words : ℕ → List ℕ → Read (List ℕ)
read_words zero bytes = Ok ([], bytes)
read_words (suc count) bytes = read_number 4 bytes >>= λ w. read_words count w.1 >>= λ ws. Ok (w.0 ∷ ws.0, ws.1)

unfoldable pub read_reference : List ℕ → Read Reference
read_reference bytes =
    read_word_count bytes >>= λ count.
    read_node count.1 >>= λ node.
    read_number 4 node.1 >>= λ creation.
    read_words count.0 creation.1 >>= λ words.
    Ok (record { node = node.0; creation = creation.0; words = words.0 }, words.1)

unfoldable pub read_string : List ℕ → Read Data
read_string bytes = read_number 2 bytes >>= λ n. read_part n.0 n.1 >>= λ letters. Ok (list (byte_items letters.0), letters.1)

unfoldable pub read_binary : List ℕ → Read Data
read_binary bytes = read_number 4 bytes >>= λ n. read_part n.0 n.1 >>= λ part. Ok (binary part.0, part.1)

-- what is read, as a term
abbrev pub seen : {A : Type 0} → (A → Data) → Read A → Read Data
seen f read = read >>= λ x. Ok (f x.0, x.1)

-- so many terms
unfoldable pub items_with : (List ℕ → Read Data) → ℕ → List ℕ → Read Items
items_with one zero bytes = Ok (no_items, bytes)
items_with one (suc count) bytes = one bytes >>= λ t. items_with one count t.1 >>= λ ts. Ok (item t.0 ts.0, ts.1)

-- the most elements of a tuple below which so many levels may lie
abbrev pub arities : ℕ → ℕ
arities below = if below == 0 then 0 else 2 ^ 32 - 1

-- a tuple, whose elements `one` reads
unfoldable pub tuple_with : ℕ → (List ℕ → Read Data) → ℕ → List ℕ → Read Data
tuple_with below one width bytes =
    read_bounded TooDeep (arities below) width bytes >>= λ arity. items_with one arity.0 arity.1 >>= λ ts. Ok (tuple ts.0, ts.1)

-- a list, whose elements and tail `one` reads. At the last level there is none, since a tail lies below it
unfoldable pub list_with : ℕ → (List ℕ → Read Data) → List ℕ → Read Data
list_with below one bytes =
    if below == 0 then Err TooDeep else
    (read_number 4 bytes >>= λ n. items_with one n.0 n.1 >>= λ ts. one ts.1 >>= λ t. Ok (joined ts.0 t.0, t.1))

-- what stands after a tag
unfoldable pub row_with : ℕ → (List ℕ → Read Data) → ℕ → List ℕ → Read Data
row_with below one tag bytes =
    if tag == 97 then read_small bytes else
    (if tag == 98 then read_integer bytes else
    (if tag == 110 then read_big bytes else
    (if tag == 118 then (read_atom 2 bytes >>= λ a. Ok (atom a.0, a.1)) else
    (if tag == 119 then (read_atom 1 bytes >>= λ a. Ok (atom a.0, a.1)) else
    (if tag == 104 then tuple_with below one 1 bytes else
    (if tag == 105 then tuple_with below one 4 bytes else
    (if tag == 88 then (read_pid bytes >>= λ p. Ok (pid p.0, p.1)) else
    (if tag == 115 then (read_latin 1 bytes >>= λ a. Ok (atom a.0, a.1)) else
    (if tag == 100 then (read_latin 2 bytes >>= λ a. Ok (atom a.0, a.1)) else
    (if tag == 106 then Ok (list no_items, bytes) else
    (if tag == 107 then read_string bytes else
    (if tag == 108 then list_with below one bytes else
    (if tag == 109 then read_binary bytes else
    (if tag == 90 then (read_reference bytes >>= λ r. Ok (reference r.0, r.1)) else
    Err (OutOfProfile tag)))))))))))))))

-- a term of at most so many levels
unfoldable pub read_term : ℕ → List ℕ → Read Data
read_term zero bytes = Err TooDeep
read_term (suc below) bytes = read_number 1 bytes >>= λ tag. row_with below (read_term below) tag.0 tag.1

-- the version byte, and a term of at most 64 levels
unfoldable pub read_spelling : List ℕ → Read Data
read_spelling bytes =
    read_number 1 bytes >>= λ version.
    if version.0 == 131 then read_term 64 version.1 else Err Malformed
