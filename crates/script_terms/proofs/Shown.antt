-- A printed term is one line.
use Rattle.std.proofs.Common.{◌≡◌, ℕ, zero, suc, ◌%◌, ◌≤◌, ◌<◌, Bool, true, false, ◌&&◌, ◌||◌, eqb, ltb, leb, cond, List, []}
use Rattle.std.proofs.Common.{◌∷◌, ◌++◌, codes, encode_utf8, refl, arith, decimal, IsUtf8, IsAscii, mod-lt, ℤ, pos, negsuc, lit<}
use Rattle.std.specs.Prelude.{chars}
use Rattle.std.specs.List.{list_all, flat_map}
use Rattle.std.specs.Fmt.{digits, digit_glyph, signed_decimal}
use Rattle.std.specs.Char.{IsScalar}
use Rattle.std.proofs.lemmas.Bool.{and_parts, and_from}
use Rattle.std.proofs.lemmas.Bool.Decides.{nat_tests}
use Rattle.std.proofs.lemmas.Str.{IsUtf8-append, IsUtf8-nil, IsUtf8-encode, IsUtf8-from_ascii, scalars-chars}
use lib.Utf8.{scalar, scalars}
use Rattle.erl_term.specs.declared.term.Pid.{Pid}
use Rattle.erl_term.specs.declared.term.Reference.{Reference}
use Rattle.erl_term.specs.Data.{Data, int, atom, tuple, list, improper, binary, pid, reference, Items, no_items, item}
use Rattle.script_terms.specs.Words.{is_lower, is_atom_byte, is_bare}
use Rattle.script_terms.specs.Printing.{escaped, atom_text, numbers_text, commas_text, binary_text}
use Rattle.script_terms.specs.Printing.{pid_text, reference_text, term_text, items_text, more_text}
use Rattle.script_terms.specs.OneLine.{is_shown, IsOneLine, IsPrintable, ArePrintable}
use Rattle.script_terms.proofs.Runs.{all-append, all_weaker, digits_all, encode_all}

-- ---- texts of ASCII that shows

abbrev pub is_visible : ℕ → Bool
is_visible b = leb 32 b && ltb b 127

visible_shown : (b : ℕ) → is_visible b ≡ true → is_shown b ≡ true
visible_shown b h = grind (arith, nat_tests)

visible_ascii : (b : ℕ) → is_visible b ≡ true → b < 128
visible_ascii b h = grind (arith, nat_tests)

all_ascii : (bs : List ℕ) → list_all is_visible bs ≡ true → IsAscii bs
all_ascii [] h i = lit< tt
all_ascii (b ∷ bs) h zero = visible_ascii b (and_parts _ _ h).0
all_ascii (b ∷ bs) h (suc i) = all_ascii bs (and_parts _ _ h).1 i

pub line : (bs : List ℕ) → list_all is_visible bs ≡ true → IsOneLine bs
line bs h = record { utf8 = IsUtf8-from_ascii bs (all_ascii bs h); shown = all_weaker is_visible is_shown bs visible_shown h }

pub line-append : {xs ys : List ℕ} → IsOneLine xs → IsOneLine ys → IsOneLine (xs ++ ys)
line-append {xs} {ys} h k = record { utf8 = IsUtf8-append xs ys h.utf8 k.utf8; shown = all-append is_shown xs ys h.shown k.shown }

line-nil : IsOneLine []
line-nil = record { utf8 = IsUtf8-nil; shown = refl }

-- ---- numbers

glyph_visible : (base d : ℕ) → d < base → base ≤ 16 → is_visible (digit_glyph false d) ≡ true
glyph_visible base d h k = grind (arith, nat_tests)

digits_line : (base n : ℕ) → 0 < base → base ≤ 16 → IsOneLine (digits base false n)
digits_line base n h k = line (digits base false n) (digits_all is_visible base false (λ m. glyph_visible base (m % base) (mod-lt m h) k) n)

pub decimal_line : (n : ℕ) → IsOneLine (decimal n)
decimal_line n = digits_line 10 n (omega arith) (omega arith)

signed_line : (z : ℤ) → IsOneLine (signed_decimal z)
signed_line (pos n) = decimal_line n
signed_line (negsuc n) = line-append {xs = 45 ∷ []} (line (45 ∷ []) refl) (decimal_line (suc n))

numbers_line : (mark : ℕ) (ns : List ℕ) → is_visible mark ≡ true → IsOneLine (numbers_text mark ns)
numbers_line mark [] h = line-nil
numbers_line mark (n ∷ ns) h =
    line-append {xs = mark ∷ decimal n}
    (line-append {xs = mark ∷ []} (line (mark ∷ []) (and_from (is_visible mark) true h refl)) (decimal_line n))
    (numbers_line mark ns h)

commas_line : (ns : List ℕ) → IsOneLine (commas_text ns)
commas_line [] = line-nil
commas_line (n ∷ ns) = line-append (decimal_line n) (numbers_line 44 ns refl)

binary_line : (bs : List ℕ) → IsOneLine (binary_text bs)
unfolding binary_text
binary_line bs = line-append (line-append (line (codes "<<") refl) (commas_line bs)) (line (codes ">>") refl)

-- ---- atoms

shown_char : (c : ℕ) → ltb c 32 ≡ false → eqb c 127 ≡ false → is_shown c ≡ true
shown_char c e f = grind (arith, nat_tests)

shown_high : (b : ℕ) → 128 ≤ b → is_shown b ≡ true
shown_high b h = grind (arith, nat_tests)

mark_visible : (c : ℕ) → (eqb c 39 || eqb c 92) ≡ true → is_visible c ≡ true
mark_visible c h = grind (arith, nat_tests)

escaped_line : (c : ℕ) → IsScalar c → IsOneLine (escaped c)
escaped_line c s = by (eqb c 39 || eqb c 92) refl (ltb c 32) refl (eqb c 127) refl
  where
    plain : ltb c 32 ≡ false → eqb c 127 ≡ false → IsOneLine (encode_utf8 c)
    plain e f = record { utf8 = IsUtf8-encode c s; shown = encode_all is_shown shown_high c (λ _. shown_char c e f) }

    code : IsOneLine (codes "\\x{" ++ digits 16 false c ++ codes "}")
    code = line-append (line-append (line (codes "\\x{") refl) (digits_line 16 c (omega arith) (omega arith))) (line (codes "}") refl)

    by : (x : Bool) → (eqb c 39 || eqb c 92) ≡ x → (y : Bool) → ltb c 32 ≡ y → (z : Bool) → eqb c 127 ≡ z
        → IsOneLine (cond x (92 ∷ c ∷ []) (cond (y || z) (codes "\\x{" ++ digits 16 false c ++ codes "}") (encode_utf8 c)))
    by true h y f z g =
        line (92 ∷ c ∷ []) (and_from true (is_visible c && true) refl (and_from (is_visible c) true (mark_visible c h) refl))
    by false h true f z g = code
    by false h false f true g = code
    by false h false f false g = plain f g

all_escaped : (cs : List ℕ) → scalars cs ≡ true → IsOneLine (flat_map escaped cs)
all_escaped [] s = line-nil
all_escaped (c ∷ cs) s = let both = and_parts (scalar c) (scalars cs) s in line-append (escaped_line c both.0) (all_escaped cs both.1)

bare_visible : (c : ℕ) → is_atom_byte c ≡ true → is_visible c ≡ true
bare_visible c h = grind (arith, nat_tests)

lower_visible : (c : ℕ) → is_lower c ≡ true → is_visible c ≡ true
lower_visible c h = grind (arith, nat_tests)

bare_line : (a : List ℕ) → is_bare a ≡ true → IsOneLine a
bare_line [] h = absurd cc
bare_line (c ∷ cs) h =
    let both = and_parts (is_lower c) (list_all is_atom_byte cs) h in
    line (c ∷ cs) (and_from (is_visible c) (list_all is_visible cs) (lower_visible c both.0)
    (all_weaker is_atom_byte is_visible cs bare_visible both.1))

atom_line : (a : List ℕ) → IsUtf8 a → IsOneLine (atom_text a)
unfolding atom_text
atom_line a u = by (is_bare a) refl
  where
    by : (b : Bool) → is_bare a ≡ b → IsOneLine (cond b a (codes "'" ++ flat_map escaped (chars a) ++ codes "'"))
    by true h = bare_line a h
    by false h = line-append (line-append (line (codes "'") refl) (all_escaped (chars a) (scalars-chars a u))) (line (codes "'") refl)

-- ---- pids and references

dot_line : (n : ℕ) (rest : List ℕ) → IsOneLine rest → IsOneLine (rest ++ codes "." ++ decimal n)
dot_line n rest h = line-append (line-append h (line (codes ".") refl)) (decimal_line n)

pub pid_line : (p : Pid) → IsOneLine p.node → IsOneLine (pid_text p)
unfolding pid_text
pid_line p h =
    line-append (dot_line p.creation _ (dot_line p.serial _ (dot_line p.id _ (line-append (line (codes "<") refl) h))))
    (line (codes ">") refl)

pub reference_line : (r : Reference) → IsOneLine r.node → IsOneLine (reference_text r)
unfolding reference_text
reference_line r h =
    line-append
    (line-append (dot_line r.creation _ (line-append (line (codes "#Ref<") refl) h)) (numbers_line 46 r.words refl))
    (line (codes ">") refl)

-- ---- terms

mutual
  pub term_line : (t : Data) → IsPrintable t → IsOneLine (term_text t)
  term_line (int z) h = signed_line z
  term_line (atom a) h = atom_line a h
  term_line (tuple ts) h = line-append (line (codes "{") refl) (line-append (items_line ts h) (line (codes "}") refl))
  term_line (list ts) h = line-append (line (codes "[") refl) (line-append (items_line ts h) (line (codes "]") refl))
  term_line (improper ts t) h =
      line-append (line (codes "[") refl)
      (line-append (items_line ts h.0) (line-append (line (codes "|") refl) (line-append (term_line t h.1) (line (codes "]") refl))))
  term_line (binary a) h = binary_line a
  term_line (pid p) h = pid_line p h
  term_line (reference r) h = reference_line r h

  items_line : (ts : Items) → ArePrintable ts → IsOneLine (items_text ts)
  items_line no_items h = line-nil
  items_line (item t ts) h = line-append (term_line t h.0) (more_line ts h.1)

  more_line : (ts : Items) → ArePrintable ts → IsOneLine (more_text ts)
  more_line no_items h = line-nil
  more_line (item t ts) h = line-append (line (codes ",") refl) (line-append (term_line t h.0) (more_line ts h.1))
