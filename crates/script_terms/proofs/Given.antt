-- Facts about all terms that are read: the parts have them, and they pass to the whole.
use Rattle.erl_term.proofs.InRange.{signed_fits}
use Rattle.std.proofs.Common.{◌≡◌, ℕ, zero, suc, ◌+◌, ◌^◌, ◌≤◌, ◌<◌, Bool, true, false, eqb, ltb, leb, cond, List, [], ◌∷◌, length, drop}
use Rattle.std.proofs.Common.{Ok, Err, MatchResult, Option, None, Some, IfSome, refl, subst, arith, chars, ℤ, pos, negsuc, FitsSigned, lit<}
use Rattle.std.specs.Int.{w128}
use Rattle.std.specs.List.{take_while, prefix_len}
use Rattle.std.specs.Str.{is_utf8}
use Rattle.std.specs.Str.Parse.{digits_value}
use Rattle.std.proofs.lemmas.Bool.{and_parts, ltb-true, leb-true}
use Rattle.std.proofs.lemmas.Str.{IsUtf8-from_is_utf8}
use Rattle.erl_term.specs.Reading.{◌>>=◌}
use Rattle.erl_term.specs.Data.{Data, int, atom, tuple, list, improper, binary, pid, reference, no_items, item, joined}
use Rattle.erl_term.specs.View.{items_of}
use Rattle.erl_term.specs.Numbers.{AreBytes, signed}
use Rattle.erl_term.specs.Text.{IsAtomText, is_atom_text}
use Rattle.erl_term.specs.Canonical.{is_byte, byte_of, levels_of}
use Rattle.script_terms.specs.declared.fault.TermFault.TheVariants.{BadTerm}
use Rattle.script_terms.specs.declared.names.Named.{Named}
use Rattle.script_terms.specs.declared.names.Named.TheVariants.{Process, Monitor}
use Rattle.script_terms.specs.Words.{is_lower, is_digit, is_name_byte, is_atom_byte, is_name}
use Rattle.script_terms.specs.Binding.{Look, named_data}
use Rattle.script_terms.specs.OneLine.{IsPrintable, ArePrintable, NamesArePrintable}
use Rattle.script_terms.specs.Values.{IsValue, AreValues}
use Rattle.script_terms.specs.Reading.{Read, next_at, mark_at, seen, found, atom_of, digits_at, integer_at, bare_at}
use Rattle.script_terms.specs.Reading.{pieces_at, quoted_at, separated_at, byte_at, binary_at, named_at, leaf_at}
use Rattle.script_terms.specs.Reading.{tuple_at, list_at, tail_at, cells_at, term_with, term_at, whole, term_of}

abbrev OnRead : {A : Type 0} → (A → Type 0) → Read A → Type 0
OnRead P r = MatchResult r (λ x. P x.0) (λ _. Unit {0})

on_if : {A : Type 0} (P : A → Type 0) (b : Bool) (x y : Read A) → OnRead P x → OnRead P y → OnRead P (cond b x y)
on_if P true x y h k = h
on_if P false x y h k = k

on_then : {A B : Type 0} (Q : A → Type 0) (P : B → Type 0) (r : Read A) (f : A × List ℕ → Read B) → OnRead Q r
    → ((x : A × List ℕ) → Q x.0 → OnRead P (f x)) → OnRead P (r >>= f)
on_then Q P (Ok x) f h k = k x h
on_then Q P (Err e) f h k = tt

on_after : {A B : Type 0} (P : B → Type 0) (r : Read A) (f : A × List ℕ → Read B) → ((x : A × List ℕ) → OnRead P (f x)) → OnRead P (r >>= f)
on_after P (Ok x) f k = k x
on_after P (Err e) f k = tt

-- ---- integers

digits_given : (sign : ℕ) (bytes : List ℕ) → sign ≤ 1 → OnRead (FitsSigned w128) (digits_at sign bytes)
unfolding digits_at
digits_given sign bytes one = by (digits_value 10 (take_while is_digit bytes)) (eqb (length (take_while is_digit bytes)) 0)
  where
    fits : (n : ℕ) (b : Bool) → ltb n (2 ^ 127 + sign) ≡ b
        → OnRead (FitsSigned w128) (cond b (Ok (signed sign n, drop (prefix_len is_digit bytes) bytes)) (Err BadTerm))
    fits n true e = signed_fits sign n one (ltb-true n (2 ^ 127 + sign) e)
    fits n false e = tt

    by : (n : ℕ) (none : Bool) → OnRead (FitsSigned w128)
        (cond none (Err BadTerm) (cond (ltb n (2 ^ 127 + sign)) (Ok (signed sign n, drop (prefix_len is_digit bytes) bytes)) (Err BadTerm)))
    by n true = tt
    by n false = fits n (ltb n (2 ^ 127 + sign)) refl

integer_given : (bytes : List ℕ) → OnRead (FitsSigned w128) (integer_at bytes)
unfolding integer_at
integer_given bytes =
    on_after (FitsSigned w128) (next_at bytes) _ (λ c. on_if (FitsSigned w128) (eqb c.0 45) (digits_at 1 c.1)
    (digits_at 0 bytes) (digits_given 1 c.1 (omega arith)) (digits_given 0 bytes (omega arith)))

-- ---- atoms

atom_given : (text : List ℕ × List ℕ) → OnRead IsAtomText (atom_of text)
atom_given text = by (is_atom_text text.0) refl
  where
    by : (b : Bool) → is_atom_text text.0 ≡ b → OnRead IsAtomText (cond b (Ok text) (Err BadTerm))
    by true e =
        let both = and_parts (is_utf8 text.0) (leb (length (chars text.0)) 255) e in
        record { utf8 = IsUtf8-from_is_utf8 text.0 both.0; short = leb-true (length (chars text.0)) 255 both.1 }
    by false e = tt

bare_given : (bytes : List ℕ) → OnRead IsAtomText (bare_at bytes)
unfolding bare_at
bare_given bytes = atom_given (take_while is_atom_byte bytes, drop (prefix_len is_atom_byte bytes) bytes)

quoted_given : (bytes : List ℕ) → OnRead IsAtomText (quoted_at bytes)
unfolding quoted_at
quoted_given bytes = on_after IsAtomText (pieces_at (length bytes) bytes) atom_of atom_given

-- ---- in a row

abbrev Each : {A : Type 0} → (A → Type 0) → List A → Type 0
Each P [] = Unit {0}
Each P (x ∷ xs) = P x × Each P xs

row_given : {A : Type 0} (P : A → Type 0) (one : List ℕ → Read A) (close : ℕ) → ((bytes : List ℕ) → OnRead P (one bytes))
    → (most : ℕ) (bytes : List ℕ) → OnRead (Each P) (separated_at one close most bytes)
unfolding separated_at
row_given P one close h zero bytes = tt
row_given P one close h (suc most) bytes = on_then P (Each P) (one bytes) _ (h bytes) (λ t p.
    on_after (Each P) (next_at t.1) _ (λ c.
    on_if (Each P) (eqb c.0 44) _ _ (on_then (Each P) (Each P) (separated_at one close most c.1) (λ ts. Ok (t.0 ∷ ts.0, ts.1))
    (row_given P one close h most c.1) (λ ts ps. (p, ps)))
    (on_if (Each P) (eqb c.0 close) (Ok (t.0 ∷ [], c.1)) (Err BadTerm) (p, tt) tt)))

-- ---- binaries

byte_fits : (z : ℤ) → is_byte (int z) ≡ true → byte_of (int z) < 256
byte_fits (pos n) h = ltb-true n 256 h
byte_fits (negsuc n) h = absurd cc

abbrev IsByte : ℕ → Type 0
IsByte b = b < 256

byte_given : (bytes : List ℕ) → OnRead IsByte (byte_at bytes)
unfolding byte_at
byte_given bytes = on_after IsByte (integer_at bytes) _ (λ z. by z (is_byte (int z.0)) refl)
  where
    by : (z : ℤ × List ℕ) (b : Bool) → is_byte (int z.0) ≡ b → OnRead IsByte (cond b (Ok (byte_of (int z.0), z.1)) (Err BadTerm))
    by z true e = byte_fits z.0 e
    by z false e = tt

are_bytes : (bs : List ℕ) → Each IsByte bs → AreBytes bs
are_bytes [] h i = lit< tt
are_bytes (b ∷ bs) h zero = h.0
are_bytes (b ∷ bs) h (suc i) = are_bytes bs h.1 i

binary_given : (bytes : List ℕ) → OnRead AreBytes (binary_at bytes)
unfolding binary_at
binary_given bytes = on_after AreBytes (mark_at 60 bytes) _ (λ front. on_after AreBytes (next_at front.1) _ (λ c.
    on_if AreBytes (eqb c.0 62) _ _ (on_after AreBytes (mark_at 62 c.1) (λ end. Ok ([], end.1)) (λ end. are_bytes [] tt))
    (on_then (Each IsByte) AreBytes (separated_at byte_at 62 (length front.1) front.1) _
    (row_given IsByte byte_at 62 byte_given (length front.1) front.1)
    (λ bs h. on_after AreBytes (mark_at 62 bs.1) (λ end. Ok (bs.0, end.1)) (λ end. are_bytes bs.0 h)))))

-- ---- terms

-- a property that each integer, atom and binary has, and that passes from items to tuples and lists
record IsClosed (P : Data → Type 0) : Type 0 where
  pub ints : (z : ℤ) → FitsSigned w128 z → P (int z)
  pub atoms : (a : List ℕ) → IsAtomText a → P (atom a)
  pub binaries : (a : List ℕ) → AreBytes a → P (binary a)
  pub tuples : (ds : List Data) → Each P ds → P (tuple (items_of ds))
  pub none : P (list no_items)
  pub single : (t : Data) → P t → P (list (item t no_items))
  pub more : (t u : Data) → P t → P u → P (joined (item t no_items) u)

abbrev AtNames : (Data → Type 0) → Look → Type 0
AtNames P look = (name : List ℕ) → IfSome (look name) (λ named. P (named_data named))

module _ (P : Data → Type 0) (closed : IsClosed P) where
  on_seen : {A : Type 0} (Q : A → Type 0) (f : A → Data) (r : Read A) → OnRead Q r → ((a : A) → Q a → P (f a)) → OnRead P (seen f r)
  on_seen Q f r h k = on_then Q P r (λ x. Ok (f x.0, x.1)) h (λ x q. k x.0 q)

  found_given : (o : Option Named) (rest : List ℕ) → IfSome o (λ named. P (named_data named)) → OnRead P (seen named_data (found o rest))
  found_given None rest h = tt
  found_given (Some named) rest h = h

  named_given : (look : Look) (bytes : List ℕ) → AtNames P look → OnRead P (seen named_data (named_at look bytes))
  unfolding named_at
  named_given look bytes h = by (is_name (take_while is_name_byte bytes))
    where
      by : (b : Bool) → OnRead P (seen named_data
          (cond b (found (look (take_while is_name_byte bytes)) (drop (prefix_len is_name_byte bytes) bytes)) (Err BadTerm)))
      by true =
          found_given (look (take_while is_name_byte bytes)) (drop (prefix_len is_name_byte bytes) bytes)
          (h (take_while is_name_byte bytes))
      by false = tt

  leaf_given : (look : Look) (first : ℕ) (rest bytes : List ℕ) → AtNames P look → OnRead P (leaf_at look first rest bytes)
  unfolding leaf_at
  leaf_given look first rest bytes h =
      on_if P (eqb first 36) _ _ (named_given look rest h)
      (on_if P (eqb first 39) _ _ (on_seen IsAtomText atom (quoted_at rest) (quoted_given rest) closed.atoms)
      (on_if P (eqb first 60) _ _ (on_seen AreBytes binary (binary_at rest) (binary_given rest) closed.binaries)
      (on_if P (is_lower first) _ _ (on_seen IsAtomText atom (bare_at bytes) (bare_given bytes) closed.atoms)
      (on_seen (FitsSigned w128) int (integer_at bytes) (integer_given bytes) closed.ints))))

  module _ (one : List ℕ → Read Data) (given : (bytes : List ℕ) → OnRead P (one bytes)) where
    tuple_given : (bytes : List ℕ) → OnRead P (tuple_at one bytes)
    unfolding tuple_at
    tuple_given bytes = on_after P (next_at bytes) _ (λ c.
        on_if P (eqb c.0 125) (Ok (tuple no_items, c.1)) _ (closed.tuples [] tt)
        (on_then (Each P) P (separated_at one 125 (length bytes) bytes) (λ ts. Ok (tuple (items_of ts.0), ts.1))
        (row_given P one 125 given (length bytes) bytes) (λ ts h. closed.tuples ts.0 h)))

    list_given : (cells : List ℕ → Read Data) (bytes : List ℕ) → ((after : List ℕ) → OnRead P (cells after))
        → OnRead P (list_at cells bytes)
    list_given cells bytes h =
        on_after P (next_at bytes) _ (λ c. on_if P (eqb c.0 93) (Ok (list no_items, c.1)) (cells bytes) closed.none (h bytes))

    tail_given : (cells : List ℕ → Read Data) (bytes : List ℕ) → ((after : List ℕ) → OnRead P (cells after))
        → OnRead P (tail_at one cells bytes)
    tail_given cells bytes h =
        on_after P (next_at bytes) _ (λ c. on_if P (eqb c.0 91) (list_at cells c.1) (one bytes) (list_given cells c.1 h) (given bytes))

    cells_given : (most : ℕ) (bytes : List ℕ) → OnRead P (cells_at one most bytes)
    unfolding cells_at
    cells_given zero bytes = tt
    cells_given (suc most) bytes = on_then P P (one bytes) _ (given bytes) (λ t v.
        on_after P (next_at t.1) _ (λ c.
        on_if P (eqb c.0 44) _ _ (on_then P P (cells_at one most c.1) (λ u. Ok (joined (item t.0 no_items) u.0, u.1))
        (cells_given most c.1) (λ u w. closed.more t.0 u.0 v w))
        (on_if P (eqb c.0 93) (Ok (list (item t.0 no_items), c.1)) _ (closed.single t.0 v)
        (on_if P (eqb c.0 124) _ (Err BadTerm)
        (on_then P P (tail_at one (cells_at one most) c.1) _ (tail_given (cells_at one most) c.1 (cells_given most)) (λ u w.
        on_after P (mark_at 93 u.1) (λ close. Ok (joined (item t.0 no_items) u.0, close.1)) (λ close. closed.more t.0 u.0 v w))) tt))))

  with_given : (look : Look) (brackets : ℕ) (inner : List ℕ → Read Data) (bytes : List ℕ) → AtNames P look
      → ((after : List ℕ) → OnRead P (inner after)) → OnRead P (term_with look brackets inner bytes)
  unfolding term_with
  with_given look brackets inner bytes names h = on_after P (next_at bytes) _ (λ c.
      on_if P (eqb c.0 123) _ _ (on_if P (eqb brackets 0) (Err BadTerm) (tuple_at inner c.1) tt (tuple_given inner h c.1))
      (on_if P (eqb c.0 91) _ (leaf_at look c.0 c.1 bytes) (on_if P (eqb brackets 0) (Err BadTerm)
      (list_at (cells_at inner (length c.1)) c.1) tt
      (list_given inner h (cells_at inner (length c.1)) c.1 (cells_given inner h (length c.1))))
      (leaf_given look c.0 c.1 bytes names)))

  term_given : (look : Look) (brackets : ℕ) (bytes : List ℕ) → AtNames P look → OnRead P (term_at look brackets bytes)
  unfolding term_at
  term_given look zero bytes names = with_given look 0 (λ _. Err BadTerm) bytes names (λ _. tt)
  term_given look (suc brackets) bytes names =
      with_given look (suc brackets) (term_at look brackets) bytes names (λ after. term_given look brackets after names)

  whole_given : (r : Read Data) (t : Data) → OnRead P r → (r >>= whole) ≡ Ok t → P t × (levels_of t ≤ 64)
  whole_given (Err e) t h k = absurd cc
  whole_given (Ok x) t h k = by x.0 x.1 h k
    where
      fits : (u : Data) (b : Bool) → leb (levels_of u) 64 ≡ b → P u → cond b (Ok u) (Err BadTerm) ≡ Ok t → P t × (levels_of t ≤ 64)
      fits u true e v q = let same : u ≡ t = cc in subst (λ (d : Data). P d × (levels_of d ≤ 64)) same (v, leb-true (levels_of u) 64 e)
      fits u false e v q = absurd cc

      by : (u : Data) (rest : List ℕ) → P u → whole (u, rest) ≡ Ok t → P t × (levels_of t ≤ 64)
      by u [] v q = fits u (leb (levels_of u) 64) refl v q
      by u (c ∷ cs) v q = absurd cc

  given : (look : Look) (text : List ℕ) (t : Data) → AtNames P look → term_of look text ≡ Ok t → P t × (levels_of t ≤ 64)
  unfolding term_of
  given look text t names e = whole_given (term_at look 64 text) t (term_given look 64 text names) e

-- ---- it is a value

values_of : (ds : List Data) → Each IsValue ds → AreValues (items_of ds)
values_of [] h = tt
values_of (d ∷ ds) h = (h.0, values_of ds h.1)

joined_value : (t u : Data) → IsValue t → IsValue u → IsValue (joined (item t no_items) u)
joined_value t (list us) v w = (v, w)
joined_value t (improper us u) v w = (omega arith, w.1, (v, w.2), w.3)
joined_value t (int z) v w = (omega arith, refl, (v, tt), w)
joined_value t (atom a) v w = (omega arith, refl, (v, tt), w)
joined_value t (tuple us) v w = (omega arith, refl, (v, tt), w)
joined_value t (binary a) v w = (omega arith, refl, (v, tt), w)
joined_value t (pid p) v w = (omega arith, refl, (v, tt), w)
joined_value t (reference r) v w = (omega arith, refl, (v, tt), w)

values_closed : IsClosed IsValue
values_closed = record {
  ints = λ z h. h;
  atoms = λ a h. h;
  binaries = λ a h. h;
  tuples = values_of;
  none = tt;
  single = λ t v. (v, tt);
  more = joined_value;
}

names_values : (look : Look) → AtNames IsValue look
names_values look name = by (look name)
  where
    value : (named : Named) → IsValue (named_data named)
    value (Process p) = tt
    value (Monitor r) = tt

    by : (o : Option Named) → IfSome o (λ named. IsValue (named_data named))
    by None = tt
    by (Some named) = value named

pub value_given : (look : Look) (text : List ℕ) (t : Data) → term_of look text ≡ Ok t → IsValue t × (levels_of t ≤ 64)
value_given look text t e = given IsValue values_closed look text t (names_values look) e

-- ---- it can be printed on one line

printable_of : (ds : List Data) → Each IsPrintable ds → ArePrintable (items_of ds)
printable_of [] h = tt
printable_of (d ∷ ds) h = (h.0, printable_of ds h.1)

joined_printable : (t u : Data) → IsPrintable t → IsPrintable u → IsPrintable (joined (item t no_items) u)
joined_printable t (list us) v w = (v, w)
joined_printable t (improper us u) v w = ((v, w.0), w.1)
joined_printable t (int z) v w = ((v, tt), w)
joined_printable t (atom a) v w = ((v, tt), w)
joined_printable t (tuple us) v w = ((v, tt), w)
joined_printable t (binary a) v w = ((v, tt), w)
joined_printable t (pid p) v w = ((v, tt), w)
joined_printable t (reference r) v w = ((v, tt), w)

printable_closed : IsClosed IsPrintable
printable_closed = record {
  ints = λ z h. tt;
  atoms = λ a h. h.utf8;
  binaries = λ a h. tt;
  tuples = printable_of;
  none = tt;
  single = λ t v. (v, tt);
  more = joined_printable;
}

pub printable_given : (look : Look) (text : List ℕ) (t : Data) → NamesArePrintable look → term_of look text ≡ Ok t → IsPrintable t
printable_given look text t names e = (given IsPrintable printable_closed look text t names e).0
