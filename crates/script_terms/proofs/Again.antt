-- A term that is printed is read again.
use Rattle.std.proofs.Common.{◌≡◌, ℕ, zero, suc, ◌≤◌, ◌<◌, max, Bool, true, false, eqb, ltb, leb, cond, List, []}
use Rattle.std.proofs.Common.{◌∷◌, ◌++◌, codes, length, drop, append_assoc, append-nil, length-append, Ok, refl}
use Rattle.std.proofs.Common.{sym, ap, ◌∙◌, arith, decimal, le-leb, chars, ◌^◌, ℤ, pos, negsuc}
use Rattle.std.specs.List.{list_all, flat_map, take_while, prefix_len}
use Rattle.std.specs.Fmt.{signed_decimal}
use Rattle.std.proofs.lemmas.Bool.{and_parts, and_from}
use Rattle.std.proofs.lemmas.Bool.Decides.{nat_tests}
use Rattle.erl_term.specs.Data.{Data, int, atom, tuple, list, improper, binary, pid, reference, Items, no_items, item, count}
use Rattle.erl_term.specs.View.{items_of}
use Rattle.erl_term.specs.Numbers.{AreBytes}
use Rattle.erl_term.specs.Text.{IsAtomText, is_atom_text}
use Rattle.erl_term.specs.Canonical.{is_list, is_byte, is_string, are_byte_items, levels_of, most_levels}
use Rattle.erl_term.proofs.Texts.{is_atom_text-holds}
use Rattle.erl_term.proofs.Tags.{suc_not}
use Rattle.script_terms.specs.Words.{is_lower, is_digit, is_atom_byte, is_bare}
use Rattle.script_terms.specs.Binding.{Look}
use Rattle.script_terms.specs.Printing.{escaped, atom_text, commas_text, binary_text, term_text, items_text, more_text}
use Rattle.script_terms.specs.Values.{IsValue, AreValues, is_literal, are_literals}
use Rattle.script_terms.specs.Reading.{Read, next_at, bare_at, separated_at}
use Rattle.script_terms.specs.Reading.{tuple_at, list_at, cells_at, term_with, term_at, term_of}
use Rattle.script_terms.proofs.Runs.{stops, run_is, run_rest}
use Rattle.script_terms.proofs.Numerals.{Begins, decimal_begins, integer_again}
use Rattle.script_terms.proofs.Quotes.{quoted_again}
use Rattle.script_terms.proofs.Leaves.{leaf_quoted, leaf_binary, leaf_bare, leaf_int, term_leaf}
use Rattle.erl_term.proofs.Canonical.{joined_improper}
use Rattle.script_terms.proofs.Rows.{Again, AllAgain, behind_commas, binary_again, commas_len, digit_stops, row_again}

-- ---- the first byte

-- a byte that opens nothing, closes nothing and begins no name
record IsNoMark (c : ℕ) : Type 0 where
  pub tuple : eqb c 123 ≡ false
  pub list : eqb c 91 ≡ false
  pub name : eqb c 36 ≡ false
  pub quote : eqb c 39 ≡ false
  pub binary : eqb c 60 ≡ false
  pub brace : eqb c 125 ≡ false
  pub bracket : eqb c 93 ≡ false

word_no_mark : (c : ℕ) → is_atom_byte c ≡ true → IsNoMark c
word_no_mark c h = grind (arith, nat_tests)

digit_word : (c : ℕ) → is_digit c ≡ true → is_atom_byte c ≡ true
digit_word c h = grind (arith, nat_tests)

lower_word : (c : ℕ) → is_lower c ≡ true → is_atom_byte c ≡ true
lower_word c h = grind (arith, nat_tests)

digit_no_lower : (c : ℕ) → is_digit c ≡ true → is_lower c ≡ false
digit_no_lower c h = grind (arith, nat_tests)

-- the first byte of a term's text: no mark that closes, and none that opens a list unless the term is one
record HasFront (t : Data) : Type 0 where
  pub first : ℕ
  pub more : List ℕ
  pub bytes : term_text t ≡ first ∷ more
  pub brace : eqb first 125 ≡ false
  pub bracket : eqb first 93 ≡ false
  pub opens : is_list t ≡ false → eqb first 91 ≡ false

word_front : (t : Data) (first : ℕ) (more : List ℕ) → term_text t ≡ first ∷ more → is_atom_byte first ≡ true → HasFront t
word_front t first more e h =
    let no = word_no_mark first h in
    record { first = first; more = more; bytes = e; brace = no.brace; bracket = no.bracket; opens = λ _. no.list }

int_front : (z : ℤ) → IsValue (int z) → HasFront (int z)
int_front (pos n) v =
    let b = decimal_begins n (omega arith) in word_front (int (pos n)) b.first b.more b.bytes (digit_word b.first b.passes)
int_front (negsuc n) v = record { first = 45; more = decimal (suc n); bytes = refl; brace = refl; bracket = refl; opens = λ _. refl }

bare_text : (a : List ℕ) → is_bare a ≡ true → atom_text a ≡ a
unfolding atom_text
bare_text a h = rw h refl

quoted_text : (a : List ℕ) → is_bare a ≡ false → atom_text a ≡ 39 ∷ (flat_map escaped (chars a) ++ codes "'")
unfolding atom_text
quoted_text a h = rw h refl

bare_begins : (a : List ℕ) → is_bare a ≡ true → Begins is_lower a
bare_begins [] h = absurd cc
bare_begins (c ∷ cs) h = record { first = c; more = cs; bytes = refl; passes = (and_parts (is_lower c) (list_all is_atom_byte cs) h).0 }

bare_word : (a : List ℕ) → is_bare a ≡ true → list_all is_atom_byte a ≡ true
bare_word [] h = absurd cc
bare_word (c ∷ cs) h =
    let both = and_parts (is_lower c) (list_all is_atom_byte cs) h in
    and_from (is_atom_byte c) (list_all is_atom_byte cs) (lower_word c both.0) both.1

atom_front : (a : List ℕ) → HasFront (atom a)
atom_front a = by (is_bare a) refl
  where
    by : (b : Bool) → is_bare a ≡ b → HasFront (atom a)
    by true h = let b = bare_begins a h in word_front (atom a) b.first b.more (bare_text a h ∙ b.bytes) (lower_word b.first b.passes)
    by false h = record {
      first = 39;
      more = flat_map escaped (chars a) ++ codes "'";
      bytes = quoted_text a h;
      brace = refl;
      bracket = refl;
      opens = λ _. refl;
    }

binary_front : (a : List ℕ) → HasFront (binary a)
unfolding binary_text
binary_front a = record {
  first = 60;
  more = 60 ∷ (commas_text a ++ codes ">>");
  bytes = refl;
  brace = refl;
  bracket = refl;
  opens = λ _. refl;
}

front : (t : Data) → IsValue t → is_literal t ≡ true → HasFront t
front (int z) v l = int_front z v
front (atom a) v l = atom_front a
front (tuple ts) v l = record {
  first = 123;
  more = items_text ts ++ codes "}";
  bytes = refl;
  brace = refl;
  bracket = refl;
  opens = λ _. refl;
}
front (list ts) v l = record {
  first = 91;
  more = items_text ts ++ codes "]";
  bytes = refl;
  brace = refl;
  bracket = refl;
  opens = λ e. absurd cc;
}
front (improper ts t) v l = record {
  first = 91;
  more = items_text ts ++ (codes "|" ++ (term_text t ++ codes "]"));
  bytes = refl;
  brace = refl;
  bracket = refl;
  opens = λ e. absurd cc;
}
front (binary a) v l = binary_front a
front (pid p) v l = absurd cc
front (reference r) v l = absurd cc

-- ---- terms with no brackets

int_again : (look : Look) (n : ℕ) (z : ℤ) (rest : List ℕ) → IsValue (int z) → stops is_digit rest ≡ true
    → term_at look n (signed_decimal z ++ rest) ≡ Ok (int z, rest)
int_again look n (pos k) rest v s =
    let b = decimal_begins k (omega arith) in
    let no = word_no_mark b.first (digit_word b.first b.passes) in
    let bytes = decimal k ++ rest in
    let next : next_at bytes ≡ Ok (b.first, b.more ++ rest) = ap (λ (bs : List ℕ). next_at (bs ++ rest)) b.bytes in
    term_leaf look n bytes b.first (b.more ++ rest) next no.tuple no.list ∙ leaf_int look b.first (b.more ++ rest) bytes
    (pos k) rest no.name no.quote no.binary (digit_no_lower b.first b.passes) (integer_again (pos k) rest v s)
int_again look n (negsuc k) rest v s =
    let bytes = 45 ∷ (decimal (suc k) ++ rest) in
    term_leaf look n bytes 45 (decimal (suc k) ++ rest) refl refl refl
    ∙ leaf_int look 45 (decimal (suc k) ++ rest) bytes (negsuc k) rest refl refl refl refl (integer_again (negsuc k) rest v s)

bare_by : (bytes a rest : List ℕ) → take_while is_atom_byte bytes ≡ a → drop (prefix_len is_atom_byte bytes) bytes ≡ rest
    → is_atom_text a ≡ true → bare_at bytes ≡ Ok (a, rest)
unfolding bare_at
bare_by bytes a rest e f t = rw (e, f, t) refl

bare_again : (look : Look) (n : ℕ) (a rest : List ℕ) → is_bare a ≡ true → IsAtomText a → stops is_atom_byte rest ≡ true
    → term_at look n (a ++ rest) ≡ Ok (atom a, rest)
bare_again look n a rest h t s =
    let b = bare_begins a h in
    let no = word_no_mark b.first (lower_word b.first b.passes) in
    let word = bare_word a h in
    let next : next_at (a ++ rest) ≡ Ok (b.first, b.more ++ rest) = ap (λ (bs : List ℕ). next_at (bs ++ rest)) b.bytes in
    let read =
    bare_by (a ++ rest) a rest (run_is is_atom_byte a rest word s) (run_rest is_atom_byte a rest word s)
    (is_atom_text-holds a t.utf8 t.short) in
    term_leaf look n (a ++ rest) b.first (b.more ++ rest) next no.tuple no.list
    ∙ leaf_bare look b.first (b.more ++ rest) (a ++ rest) a rest no.name no.quote no.binary b.passes read

quote_again : (look : Look) (n : ℕ) (a rest : List ℕ) → IsAtomText a
    → term_at look n (39 ∷ ((flat_map escaped (chars a) ++ codes "'") ++ rest)) ≡ Ok (atom a, rest)
quote_again look n a rest t =
    let bytes = flat_map escaped (chars a) ++ 39 ∷ rest in
    rw (append_assoc (flat_map escaped (chars a)) (codes "'") rest) (term_leaf look n (39 ∷ bytes) 39 bytes refl refl refl
    ∙ leaf_quoted look 39 bytes (39 ∷ bytes) a rest refl refl (quoted_again a rest t))

atom_again : (look : Look) (n : ℕ) (a rest : List ℕ) → IsAtomText a → stops is_atom_byte rest ≡ true
    → term_at look n (atom_text a ++ rest) ≡ Ok (atom a, rest)
atom_again look n a rest t s = by (is_bare a) refl
  where
    by : (b : Bool) → is_bare a ≡ b → term_at look n (atom_text a ++ rest) ≡ Ok (atom a, rest)
    by true h = rw (bare_text a h) (bare_again look n a rest h t s)
    by false h = rw (quoted_text a h) (quote_again look n a rest t)

bytes_again : (look : Look) (n : ℕ) (a rest : List ℕ) → AreBytes a → term_at look n (binary_text a ++ rest) ≡ Ok (binary a, rest)
unfolding binary_text
bytes_again look n a rest h =
    let bytes = 60 ∷ ((commas_text a ++ codes ">>") ++ rest) in
    term_leaf look n (60 ∷ bytes) 60 bytes refl refl refl
    ∙ leaf_binary look 60 bytes (60 ∷ bytes) a rest refl refl refl (binary_again a rest h)

-- ---- tuples and lists

abbrev listed : Items → List Data
listed no_items = []
listed (item t ts) = t ∷ listed ts

items_listed : (ts : Items) → items_of (listed ts) ≡ ts
items_listed no_items = refl
items_listed (item t ts) = ap (item t) (items_listed ts)

more_listed : (ts : Items) → more_text ts ≡ behind_commas term_text (listed ts)
more_listed no_items = refl
more_listed (item t ts) = ap (λ (bs : List ℕ). 44 ∷ (term_text t ++ bs)) (more_listed ts)

more_len : (ts : Items) → count ts ≤ length (more_text ts)
more_len no_items = omega arith
more_len (item t ts) = let more = more_len ts in omega (arith, length-append (term_text t) (more_text ts))

next_front : (t : Data) (f : HasFront t) (rest : List ℕ) → next_at (term_text t ++ rest) ≡ Ok (f.first, f.more ++ rest)
next_front t f rest = ap (λ (bs : List ℕ). next_at (bs ++ rest)) f.bytes

tuple_none : (one : List ℕ → Read Data) (rest : List ℕ) → tuple_at one (125 ∷ rest) ≡ Ok (tuple no_items, rest)
unfolding tuple_at
tuple_none one rest = refl

tuple_by : (one : List ℕ → Read Data) (first : ℕ) (more bytes : List ℕ) (ts : List Data) (rest : List ℕ)
    → next_at bytes ≡ Ok (first, more) → eqb first 125 ≡ false → separated_at one 125 (length bytes) bytes ≡ Ok (ts, rest)
    → tuple_at one bytes ≡ Ok (tuple (items_of ts), rest)
unfolding tuple_at
tuple_by one first more bytes ts rest e other h = rw (e, other, h) refl

module _ (one : List ℕ → Read Data) where
  tuple_again : (ts : Items) (rest : List ℕ) → AreValues ts → are_literals ts ≡ true → AllAgain one term_text (listed ts)
      → tuple_at one ((items_text ts ++ codes "}") ++ rest) ≡ Ok (tuple ts, rest)
  tuple_again no_items rest v l h = tuple_none one rest
  tuple_again (item t ts) rest v l h =
      let f = front t v.0 (and_parts (is_literal t) (are_literals ts) l).0 in
      let commas = behind_commas term_text (listed ts) in
      let bytes = term_text t ++ (commas ++ 125 ∷ rest) in
      let same : ((term_text t ++ more_text ts) ++ codes "}") ++ rest ≡ bytes =
      append_assoc (term_text t ++ more_text ts) (codes "}") rest ∙ append_assoc (term_text t) (more_text ts) (125 ∷ rest)
      ∙ ap (λ (bs : List ℕ). term_text t ++ (bs ++ 125 ∷ rest)) (more_listed ts) in
      let len = commas_len term_text (listed ts) in
      let row =
      row_again one term_text 125 t (listed ts) (length bytes) rest refl refl h.0 h.1
      (omega (arith, length-append (term_text t) (commas ++ 125 ∷ rest), length-append commas (125 ∷ rest))) in
      let all =
      tuple_by one f.first (f.more ++ (commas ++ 125 ∷ rest)) bytes (t ∷ listed ts) rest
      (next_front t f (commas ++ 125 ∷ rest)) f.brace row in
      rw same (all ∙ ap (λ (us : Items). Ok (tuple (item t us), rest)) (items_listed ts))

  cells_again : (t : Data) (ts : Items) (most : ℕ) (rest : List ℕ) → Again one term_text t
      → AllAgain one term_text (listed ts) → count ts < most
      → cells_at one most (term_text t ++ (more_text ts ++ 93 ∷ rest)) ≡ Ok (list (item t ts), rest)
  unfolding cells_at
  cells_again t ts zero rest h hs le = absurd (omega arith)
  cells_again t no_items (suc most) rest h hs le = let e = h (93 ∷ rest) refl in rw e refl
  cells_again t (item u us) (suc most) rest h hs le =
      let e = h (44 ∷ (term_text u ++ (more_text us ++ 93 ∷ rest))) refl in
      let more = cells_again u us most rest hs.0 hs.1 (omega arith) in
      rw (append_assoc (term_text u) (more_text us) (93 ∷ rest), e, more) refl

  tail_again : (t : Data) (ts : Items) (u : Data) (f : HasFront u) (most : ℕ) (rest : List ℕ) → Again one term_text t
      → AllAgain one term_text (listed ts) → Again one term_text u → is_list u ≡ false → count ts < most
      → cells_at one most (term_text t ++ (more_text ts ++ 124 ∷ (term_text u ++ 93 ∷ rest))) ≡ Ok (improper (item t ts) u, rest)
  unfolding cells_at
  tail_again t ts u f zero rest h hs k other le = absurd (omega arith)
  tail_again t no_items u f (suc most) rest h hs k other le =
      let e = h (124 ∷ (term_text u ++ 93 ∷ rest)) refl in
      let next = next_front u f (93 ∷ rest) in
      let last = k (93 ∷ rest) refl in
      rw (e, next, f.opens other, last) (ap (λ (d : Data). Ok (d, rest)) (joined_improper (item t no_items) u (omega arith) other))
  tail_again t (item v vs) u f (suc most) rest h hs k other le =
      let e = h (44 ∷ (term_text v ++ (more_text vs ++ 124 ∷ (term_text u ++ 93 ∷ rest)))) refl in
      let more = tail_again v vs u f most rest hs.0 hs.1 k other (omega arith) in
      rw (append_assoc (term_text v) (more_text vs) (124 ∷ (term_text u ++ 93 ∷ rest)), e, more) refl

  list_by : (first : ℕ) (more bytes : List ℕ) (cells : List ℕ → Read Data) (t : Data) (rest : List ℕ)
      → next_at bytes ≡ Ok (first, more) → eqb first 93 ≡ false → cells bytes ≡ Ok (t, rest)
      → list_at cells bytes ≡ Ok (t, rest)
  list_by first more bytes cells t rest e other h = rw (e, other, h) refl

  list_again : (ts : Items) (rest : List ℕ) → AreValues ts → are_literals ts ≡ true → AllAgain one term_text (listed ts)
      → (bytes : List ℕ) → bytes ≡ (items_text ts ++ codes "]") ++ rest
      → list_at (cells_at one (length bytes)) bytes ≡ Ok (list ts, rest)
  list_again no_items rest v l h bytes e = rw e refl
  list_again (item t ts) rest v l h bytes e =
      let f = front t v.0 (and_parts (is_literal t) (are_literals ts) l).0 in
      let behind = more_text ts ++ 93 ∷ rest in
      let same : bytes ≡ term_text t ++ behind =
      e ∙ append_assoc (term_text t ++ more_text ts) (codes "]") rest ∙ append_assoc (term_text t) (more_text ts) (93 ∷ rest) in
      let len = more_len ts in
      let size = ap length same in
      let cells =
      cells_again t ts (length bytes) rest h.0 h.1
      (omega (arith, length-append (term_text t) behind, length-append (more_text ts) (93 ∷ rest))) in
      list_by f.first (f.more ++ behind) bytes (cells_at one (length bytes)) (list (item t ts)) rest
      (ap next_at same ∙ next_front t f behind) f.bracket (ap (cells_at one (length bytes)) same ∙ cells)

  improper_again : (ts : Items) (u : Data) (f : HasFront u) (rest : List ℕ) → 0 < count ts → is_list u ≡ false → AreValues ts
      → are_literals ts ≡ true → AllAgain one term_text (listed ts) → Again one term_text u → (bytes : List ℕ)
      → bytes ≡ (items_text ts ++ (codes "|" ++ (term_text u ++ codes "]"))) ++ rest
      → list_at (cells_at one (length bytes)) bytes ≡ Ok (improper ts u, rest)
  improper_again no_items u f rest some other v l h k bytes e = absurd (omega arith)
  improper_again (item t ts) u f rest some other v l h k bytes e =
      let g = front t v.0 (and_parts (is_literal t) (are_literals ts) l).0 in
      let last = term_text u ++ 93 ∷ rest in
      let behind = more_text ts ++ 124 ∷ last in
      let end : (codes "|" ++ (term_text u ++ codes "]")) ++ rest ≡ 124 ∷ last =
      ap (λ (bs : List ℕ). 124 ∷ bs) (append_assoc (term_text u) (codes "]") rest) in
      let same : bytes ≡ term_text t ++ behind =
      e ∙ append_assoc (term_text t ++ more_text ts) (codes "|" ++ (term_text u ++ codes "]")) rest
      ∙ ap (λ (bs : List ℕ). (term_text t ++ more_text ts) ++ bs) end
      ∙ append_assoc (term_text t) (more_text ts) (124 ∷ last) in
      let len = more_len ts in
      let size = ap length same in
      let cells =
      tail_again t ts u f (length bytes) rest h.0 h.1 k other
      (omega (arith, length-append (term_text t) behind, length-append (more_text ts) (124 ∷ last))) in
      list_by g.first (g.more ++ behind) bytes (cells_at one (length bytes)) (improper (item t ts) u) rest
      (ap next_at same ∙ next_front t g behind) g.bracket (ap (cells_at one (length bytes)) same ∙ cells)

-- ---- terms

-- how many brackets open one inside another
abbrev mutual
  brackets_of : Data → ℕ
  brackets_of (int z) = 0
  brackets_of (atom a) = 0
  brackets_of (tuple ts) = suc (most_brackets ts)
  brackets_of (list ts) = suc (most_brackets ts)
  brackets_of (improper ts t) = suc (max (most_brackets ts) (brackets_of t))
  brackets_of (binary a) = 0
  brackets_of (pid p) = 0
  brackets_of (reference r) = 0

  most_brackets : Items → ℕ
  most_brackets no_items = 0
  most_brackets (item t ts) = max (brackets_of t) (most_brackets ts)

byte_brackets : (t : Data) → is_byte t ≡ true → brackets_of t ≡ 0
byte_brackets (int z) h = refl
byte_brackets (atom a) h = refl
byte_brackets (tuple ts) h = absurd cc
byte_brackets (list ts) h = absurd cc
byte_brackets (improper ts t) h = absurd cc
byte_brackets (binary a) h = refl
byte_brackets (pid p) h = refl
byte_brackets (reference r) h = refl

bytes_brackets : (ts : Items) → are_byte_items ts ≡ true → most_brackets ts ≡ 0
bytes_brackets no_items h = refl
bytes_brackets (item t ts) h =
    let both = and_parts (is_byte t) (are_byte_items ts) h in
    let one = byte_brackets t both.0 in
    let more = bytes_brackets ts both.1 in
    omega arith

list_brackets : (ts : Items) → most_brackets ts ≤ most_levels ts → suc (most_brackets ts) ≤ levels_of (list ts)
list_brackets ts le = by (is_string ts) refl
  where
    by : (b : Bool) → is_string ts ≡ b → suc (most_brackets ts) ≤ cond b 1 (suc (most_levels ts))
    by true e = let none = bytes_brackets ts (and_parts (are_byte_items ts) (ltb (count ts) (2 ^ 16)) e).0 in omega arith
    by false e = omega arith

mutual
  few_brackets : (t : Data) → brackets_of t ≤ levels_of t
  few_brackets (int z) = omega arith
  few_brackets (atom a) = omega arith
  few_brackets (tuple ts) = let more = few_each ts in omega arith
  few_brackets (list ts) = list_brackets ts (few_each ts)
  few_brackets (improper ts t) = let more = few_each ts in let last = few_brackets t in omega arith
  few_brackets (binary a) = omega arith
  few_brackets (pid p) = omega arith
  few_brackets (reference r) = omega arith

  few_each : (ts : Items) → most_brackets ts ≤ most_levels ts
  few_each no_items = omega arith
  few_each (item t ts) = let one = few_brackets t in let more = few_each ts in omega arith

opens_tuple : (look : Look) (n : ℕ) (bytes : List ℕ) → term_at look (suc n) (123 ∷ bytes) ≡ tuple_at (term_at look n) bytes
unfolding term_at term_with
opens_tuple look n bytes = rw (suc_not n) refl

opens_list : (look : Look) (n : ℕ) (bytes : List ℕ)
    → term_at look (suc n) (91 ∷ bytes) ≡ list_at (cells_at (term_at look n) (length bytes)) bytes
unfolding term_at term_with
opens_list look n bytes = rw (suc_not n) refl

mutual
  term_again : (look : Look) (t : Data) (n : ℕ) → IsValue t → is_literal t ≡ true → brackets_of t ≤ n → Again (term_at look n) term_text t
  term_again look (int z) n v l le = λ rest s. int_again look n z rest v (digit_stops rest s)
  term_again look (atom a) n v l le = λ rest s. atom_again look n a rest v s
  term_again look (tuple ts) zero v l le = absurd (omega arith)
  term_again look (tuple ts) (suc n) v l le =
      λ rest s. opens_tuple look n ((items_text ts ++ codes "}") ++ rest)
      ∙ tuple_again (term_at look n) ts rest v l (items_again look ts n v l (omega arith))
  term_again look (list ts) zero v l le = absurd (omega arith)
  term_again look (list ts) (suc n) v l le =
      λ rest s. opens_list look n ((items_text ts ++ codes "]") ++ rest)
      ∙ list_again (term_at look n) ts rest v l (items_again look ts n v l (omega arith)) _ refl
  term_again look (improper ts t) zero v l le = absurd (omega arith)
  term_again look (improper ts t) (suc n) v l le =
      let both = and_parts (are_literals ts) (is_literal t) l in
      λ rest s. opens_list look n ((items_text ts ++ (codes "|" ++ (term_text t ++ codes "]"))) ++ rest)
      ∙ improper_again (term_at look n) ts t (front t v.3 both.1) rest v.0 v.1 v.2 both.0
      (items_again look ts n v.2 both.0 (omega arith)) (term_again look t n v.3 both.1 (omega arith)) _ refl
  term_again look (binary a) n v l le = λ rest s. bytes_again look n a rest v
  term_again look (pid p) n v l le = absurd cc
  term_again look (reference r) n v l le = absurd cc

  items_again : (look : Look) (ts : Items) (n : ℕ) → AreValues ts → are_literals ts ≡ true → most_brackets ts ≤ n
      → AllAgain (term_at look n) term_text (listed ts)
  items_again look no_items n v l le = tt
  items_again look (item t ts) n v l le =
      let both = and_parts (is_literal t) (are_literals ts) l in
      (term_again look t n v.0 both.0 (omega arith), items_again look ts n v.1 both.1 (omega arith))

whole_again : (look : Look) (text : List ℕ) (t : Data) → term_at look 64 text ≡ Ok (t, []) → leb (levels_of t) 64 ≡ true
    → term_of look text ≡ Ok t
unfolding term_of
whole_again look text t e le = rw (e, le) refl

pub value_again : (look : Look) (t : Data) → IsValue t → levels_of t ≤ 64 → is_literal t ≡ true → term_of look (term_text t) ≡ Ok t
value_again look t v le l =
    let few = few_brackets t in
    let read = term_again look t 64 v l (omega arith) [] refl in
    whole_again look (term_text t) t (ap (term_at look 64) (sym (append-nil (term_text t))) ∙ read) (le-leb (levels_of t) 64 le)
