-- A term is read exactly as it is spelled.
use Rattle.std.proofs.Common.{[], ◌≡◌, ◌≢◌, ℕ, zero, suc, ◌-◌, ◌^◌, ◌<◌, ◌≤◌, Bool, true, false, cond}
use Rattle.std.proofs.Common.{List, ◌∷◌, ◌++◌, length, Err, refl, sym, ap, subst, ◌∙◌, arith, inl, inr}
use Rattle.std.specs.Prelude.{ℤ, pos, nat_lt, ◌==◌, MatchBool}
use Rattle.std.specs.Int.{w32, cast_signed}
use Rattle.std.proofs.lemmas.Bool.{eqb-true, ltb-false, ltb-true, lt-ltb}
use Rattle.erl_term.specs.declared.error.TermError.{TermError}
use Rattle.erl_term.specs.declared.error.TermError.TheVariants.{Cut, Malformed, OutOfProfile, TooDeep}
use Rattle.erl_term.specs.Data.{Data, int, atom, tuple, list, improper, binary, pid, reference, Items, no_items, item, count}
use Rattle.erl_term.specs.Numbers.{low_first, signed}
use Rattle.erl_term.specs.Spelling.{IsNumber, IsSmallBig, SpellAll, IsTuple, SpellsBy, Spells, IsSpelling}
use Rattle.erl_term.specs.Faults.{tags, is_tag}
use Rattle.erl_term.specs.Reading.{Read, read_atom, read_latin, read_pid, read_reference, list_with}
use Rattle.erl_term.specs.Reading.{arities, row_with, read_term, read_spelling}
use Rattle.readers.specs.Laws.{IsOnly}
use Rattle.erl_term.proofs.Readers.{Reads, Then, and_then, Reads-then, Reads-same, Reads-by, Mapped, Reads-map, Reads-only}
use Rattle.erl_term.proofs.Bytes.{one_byte, byte_number, number_1, number_4}
use Rattle.erl_term.proofs.Tags.{each_found, none_found, suc_not}
use Rattle.erl_term.proofs.Base.{byte_where, bind_where, IsByteWhere, Reads-where}
use Rattle.erl_term.proofs.Rows.{Reads-small, Reads-integer, Reads-atom, Reads-tuple, Reads-big}
use Rattle.erl_term.proofs.Pieces.{LatinText, Reads-latin, latin_to, latin_back, Sized, listed}
use Rattle.erl_term.proofs.Pieces.{Reads-string, Reads-binary, string_to, binary_to, sized_back}
use Rattle.erl_term.proofs.TableRows.{AfterSmall, AfterInteger, AfterBig, AtomText, AfterAtom, AfterTuple, atom_to, atom_back}
use Rattle.erl_term.proofs.TableRows.{byte_front, PidText, Reads-pid, pid_to, pid_back, ReferenceText, Reads-reference}
use Rattle.erl_term.proofs.TableRows.{reference_to, reference_back, ListText, cells_at, Reads-cells, list_same, list_to, list_back}

-- ---- the table

abbrev pub NilText : Data → List ℕ → Type 0
NilText = IsOnly (list no_items)

abbrev pub AfterTag : ℕ → (Data → List ℕ → Type 0) → ℕ → Data → List ℕ → Type 0
AfterTag below Spell k t b =
    MatchBool (k == 97) (AfterSmall t b) (MatchBool (k == 98) (AfterInteger t b)
    (MatchBool (k == 110) (AfterBig t b) (MatchBool (k == 118) (AfterAtom 2 t b) (MatchBool (k == 119) (AfterAtom 1 t b)
    (MatchBool (k == 104) (AfterTuple below Spell 1 t b)
    (MatchBool (k == 105) (AfterTuple below Spell 4 t b) (MatchBool (k == 88) (Mapped pid PidText t b)
    (MatchBool (k == 115) (Mapped atom (LatinText 1) t b)
    (MatchBool (k == 100) (Mapped atom (LatinText 2) t b) (MatchBool (k == 106) (NilText t b) (MatchBool (k == 107) (Sized 2 listed t b)
    (MatchBool (k == 108) (ListText Spell t b) (MatchBool (k == 109) (Sized 4 binary t b) (Mapped reference ReferenceText t b))))))))))))))

-- LIST may stand where a level is left below it
abbrev pub may_stand : ℕ → ℕ → Bool
may_stand below k = cond (k == 108) (nat_lt 0 below) (is_tag k)

abbrev pub tag_fault : ℕ → TermError
tag_fault k = cond (k == 108) TooDeep (OutOfProfile k)

pub fault_not_cut : (k : ℕ) → tag_fault k ≢ Cut
fault_not_cut k e = by (k == 108) e
  where
    by : (b : Bool) → cond b TooDeep (OutOfProfile k) ≡ Cut → ⊥
    by true e = cc
    by false e = cc

no_level : (below : ℕ) → nat_lt 0 below ≡ false → below ≡ 0
no_level below e = let le = ltb-false 0 below e in omega arith

pub unknown_row : (below : ℕ) (one : List ℕ → Read Data) (k : ℕ) (bytes : List ℕ) → is_tag k ≡ false
    → row_with below one k bytes ≡ Err (OutOfProfile k)
unfolding row_with
unknown_row below one k bytes e =
    let p = none_found tags k e in
    rw (
      p.0,
      p.1.0,
      p.1.1.0,
      p.1.1.1.0,
      p.1.1.1.1.0,
      p.1.1.1.1.1.0,
      p.1.1.1.1.1.1.0,
      p.1.1.1.1.1.1.1.0,
      p.1.1.1.1.1.1.1.1.0,
      p.1.1.1.1.1.1.1.1.1.0,
      p.1.1.1.1.1.1.1.1.1.1.0,
      p.1.1.1.1.1.1.1.1.1.1.1.0,
      p.1.1.1.1.1.1.1.1.1.1.1.1.0,
      p.1.1.1.1.1.1.1.1.1.1.1.1.1.0,
      p.1.1.1.1.1.1.1.1.1.1.1.1.1.1.0,
    ) refl

deep_row : (below : ℕ) (one : List ℕ → Read Data) (k : ℕ) (bytes : List ℕ) → k ≡ 108 → below ≡ 0 → row_with below one k bytes ≡ Err TooDeep
unfolding row_with list_with
deep_row below one k bytes e z = rw (e, z) refl

pub tag_fails : (below : ℕ) (one : List ℕ → Read Data) (k : ℕ) (bytes : List ℕ) → may_stand below k ≡ false
    → row_with below one k bytes ≡ Err (tag_fault k)
tag_fails below one k bytes e = by (k == 108) refl e
  where
    by : (b : Bool) → (k == 108) ≡ b → cond b (nat_lt 0 below) (is_tag k) ≡ false
        → row_with below one k bytes ≡ Err (cond (k == 108) TooDeep (OutOfProfile k))
    by true p e = rw p (deep_row below one k bytes (eqb-true k 108 p) (no_level below e))
    by false p e = rw p (unknown_row below one k bytes e)

-- a row of the table, where LIST has a level below it
pub record Stands (below k : ℕ) : Type 0 where
  pub tag : is_tag k ≡ true
  pub level : k ≡ 108 → 0 < below

pub stands : (below k : ℕ) → may_stand below k ≡ true → Stands below k
stands below k e = by (k == 108) refl e
  where
    tag_is : (k : ℕ) → k ≡ 108 → is_tag k ≡ true
    tag_is k p = rw p refl

    not : (k == 108) ≡ false → k ≡ 108 → ⊥
    not p q = let z : (k == 108) ≡ true = rw q refl in cc

    by : (b : Bool) → (k == 108) ≡ b → cond b (nat_lt 0 below) (is_tag k) ≡ true → Stands below k
    by true p e = record { tag = tag_is k (eqb-true k 108 p); level = λ q. ltb-true 0 below e }
    by false p e = record { tag = e; level = λ q. absurd (not p q) }

pub may_stand-true : (below k : ℕ) → is_tag k ≡ true → (k ≡ 108 → 0 < below) → may_stand below k ≡ true
may_stand-true below k e h = by (k == 108) refl
  where
    by : (b : Bool) → (k == 108) ≡ b → cond b (nat_lt 0 below) (is_tag k) ≡ true
    by true p = lt-ltb 0 below (h (eqb-true k 108 p))
    by false p = e

abbrev RowReads : ℕ → (Data → List ℕ → Type 0) → (List ℕ → Read Data) → ℕ → Type 0
RowReads below Spell one k = (k ≡ 108 → 0 < below) → Reads (AfterTag below Spell k) (row_with below one k)

pub tag_rows : (below : ℕ) (Spell : Data → List ℕ → Type 0) (one : List ℕ → Read Data) → (0 < below → Reads Spell one)
    → (k : ℕ) → Stands below k → Reads (AfterTag below Spell k) (row_with below one k)
unfolding row_with
tag_rows below Spell one r k s = each_found (RowReads below Spell one) tags (
  λ h. Reads-small,
  (
    λ h. Reads-integer,
    (
      λ h. Reads-big,
      (
        λ h. Reads-map atom (AtomText 1) (read_atom 1) (Reads-atom 1),
        (
          λ h. Reads-map atom (AtomText 2) (read_atom 2) (Reads-atom 2),
          (
            λ h. Reads-map atom (LatinText 1) (read_latin 1) (Reads-latin 1),
            (
              λ h. Reads-map atom (LatinText 2) (read_latin 2) (Reads-latin 2),
              (
                λ h. Reads-tuple below Spell one 1 r,
                (
                  λ h. Reads-tuple below Spell one 4 r,
                  (
                    λ h. Reads-only (list no_items),
                    (
                      λ h. Reads-string,
                      (
                        λ h. let lt : 0 < below = h refl in Reads-by (ListText Spell) (cells_at one) (list_with below one)
                            (λ bytes. list_same below one bytes lt) (Reads-cells Spell one (r lt)),
                        (
                          λ h. Reads-binary,
                          (
                            λ h. Reads-map pid PidText read_pid Reads-pid,
                            (λ h. Reads-map reference ReferenceText read_reference Reads-reference, tt),
                          ),
                        ),
                      ),
                    ),
                  ),
                ),
              ),
            ),
          ),
        ),
      ),
    ),
  ),
)
    k s.tag s.level

-- the terms of a tuple at the last level are none
pub none_there : (ts : Items) (b : List ℕ) → SpellAll (λ t b. ⊥) ts b → count ts ≡ 0
none_there no_items b s = refl
none_there (item t ts) b s = absurd s.2

arity_fits : (below width : ℕ) (ts : Items) (arity b : List ℕ) → count ts < 2 ^ 32 → SpellAll (Spells below) ts b → count ts ≤ arities below
arity_fits zero width ts arity b n s = let e = none_there ts b s in omega arith
arity_fits (suc below) width ts arity b n s = let e : arities (suc below) ≡ 2 ^ 32 - 1 = rw (suc_not below) refl in omega arith

tuple_to : (below : ℕ) (tag width : ℕ) (t : Data) (back b : List ℕ) → b ≡ tag ∷ back
    → AfterTuple below (Spells below) width t back → (ts : Items) × (t ≡ tuple ts) × IsTuple (Spells below) tag width ts b
tuple_to below tag width t back b e s =
    let m = s.is_back in
    let k = m.is_text in (
      m.value,
      m.made,
      record {
        arity = s.front;
        elements = s.back;
        number = subst (λ (n : ℕ). IsNumber width n s.front) (sym k.0) s.is_front.number;
        spelled = k.1;
        bytes = e ∙ ap (λ (w : List ℕ). tag ∷ w) s.parts;
      },
    )

tuple_back : (below : ℕ) (tag width : ℕ) (ts : Items) (b : List ℕ) → ((n : ℕ) (c : List ℕ) → IsNumber width n c → n < 2 ^ 32)
    → IsTuple (Spells below) tag width ts b → (back : List ℕ) × AfterTuple below (Spells below) width (tuple ts) back
    × (b ≡ tag ∷ back)
tuple_back below tag width ts b low s = (
  s.arity ++ s.elements,
  record {
    value = count ts;
    front = s.arity;
    back = s.elements;
    parts = refl;
    is_front = record {
      number = s.number;
      bound = arity_fits below width ts s.arity s.elements (low (count ts) s.arity s.number) s.spelled;
    };
    is_back = record { value = ts; is_text = (refl, s.spelled); made = refl };
  },
  s.bytes,
)

big_to : (t : Data) (back b : List ℕ) → b ≡ 110 ∷ back → AfterBig t back → (z : ℤ) × (t ≡ int z) × IsSmallBig z b
big_to t back b e s =
    let g = s.is_back in
    let m = g.is_back in
    let n-is = one_byte s.value s.front s.is_front.number in
    let sign-is = one_byte g.value g.front g.is_front.number in (
      signed g.value (low_first g.back),
      m.made,
      record {
        sign = g.value;
        magnitude = g.back;
        is_sign = g.is_front.bound;
        short = let l = m.len in let k = s.is_front.bound in omega arith;
        are_bytes = m.are_bytes;
        in_range = m.in_range;
        value = refl;
        bytes = e ∙ ap (λ (w : List ℕ). 110 ∷ w) (s.parts ∙ ap (λ (w : List ℕ). w ++ s.back) n-is
            ∙ ap (λ (w : List ℕ). s.value ∷ w) (g.parts ∙ ap (λ (w : List ℕ). w ++ g.back) sign-is)
            ∙ ap (λ (n : ℕ). n ∷ g.value ∷ g.back) (sym m.len));
      },
    )

big_back : (z : ℤ) (b : List ℕ) → IsSmallBig z b → (back : List ℕ) × AfterBig (int z) back × (b ≡ 110 ∷ back)
big_back z b s = (
  length s.magnitude ∷ s.sign ∷ s.magnitude,
  record {
    value = length s.magnitude;
    front = length s.magnitude ∷ [];
    back = s.sign ∷ s.magnitude;
    parts = refl;
    is_front = record { number = byte_number (length s.magnitude) (let k = s.short in omega arith); bound = s.short };
    is_back = record {
      value = s.sign;
      front = s.sign ∷ [];
      back = s.magnitude;
      parts = refl;
      is_front = record { number = byte_number s.sign (let k = s.is_sign in omega arith); bound = s.is_sign };
      is_back = record { len = refl; are_bytes = s.are_bytes; in_range = s.in_range; made = ap int s.value };
    };
  },
  s.bytes,
)

-- ---- a term

abbrev RowTo : ℕ → ℕ → Type 0
RowTo below k = (t : Data) (back b : List ℕ) → b ≡ k ∷ back → AfterTag below (Spells below) k t back → Spells (suc below) t b

own : (below : ℕ) (t u : Data) (b : List ℕ) → t ≡ u → SpellsBy (Spells below) u b → Spells (suc below) t b
own below t u b e s = inl (subst (λ (v : Data). SpellsBy (Spells below) v b) (sym e) s)

row_to : (below k : ℕ) → is_tag k ≡ true → RowTo below k
row_to below k e = each_found (RowTo below) tags (
  λ t back b p m.
      own below t (int (pos m.value)) b m.made (inl (record { n = m.value; field = back; number = m.is_text; value = refl; bytes = p })),
  (
    λ t back b p m. own below t (int (cast_signed w32 m.value)) b m.made
        (inr (inl (record { n = m.value; field = back; number = m.is_text; value = refl; bytes = p }))),
    (
      λ t back b p s. let m = big_to t back b p s in own below t (int m.0) b m.1 (inr (inr m.2)),
      (
        λ t back b p m. own below t (atom m.value) b m.made (inl (atom_to 119 1 m.value back b p m.is_text)),
        (
          λ t back b p m. own below t (atom m.value) b m.made (inr (inl (atom_to 118 2 m.value back b p m.is_text))),
          (
            λ t back b p m. own below t (atom m.value) b m.made (inr (inr (inl (latin_to 115 1 m.value back b p m.is_text)))),
            (
              λ t back b p m. own below t (atom m.value) b m.made (inr (inr (inr (latin_to 100 2 m.value back b p m.is_text)))),
              (
                λ t back b p s. let m = tuple_to below 104 1 t back b p s in own below t (tuple m.0) b m.1 (inl m.2),
                (
                  λ t back b p s. let m = tuple_to below 105 4 t back b p s in own below t (tuple m.0) b m.1 (inr m.2),
                  (
                    λ t back b p s. own below t (list no_items) b s.0 (inl (refl, p ∙ ap (λ (w : List ℕ). 106 ∷ w) s.1)),
                    (
                      λ t back b p s. let m = string_to t back b p s in own below t (listed m.0) b m.1 (inr m.2),
                      (
                        λ t back b p s. inr (list_to below t back b p s),
                        (
                          λ t back b p s. let m = binary_to t back b p s in own below t (binary m.0) b m.1 m.2,
                          (
                            λ t back b p m. own below t (pid m.value) b m.made (pid_to m.value back b p m.is_text),
                            (λ t back b p m. own below t (reference m.value) b m.made (reference_to m.value back b p m.is_text), tt),
                          ),
                        ),
                      ),
                    ),
                  ),
                ),
              ),
            ),
          ),
        ),
      ),
    ),
  ),
) k e

abbrev Tagged : ℕ → Data → List ℕ → Type 0
Tagged below = Then (IsByteWhere (may_stand below)) (AfterTag below (Spells below))

term_to : (below : ℕ) (t : Data) (b : List ℕ) → Tagged below t b → Spells (suc below) t b
term_to below t b s =
    row_to below s.value (stands below s.value s.is_front.passes).tag t s.back b
    (byte_front (may_stand below) s.value s.front s.back b s.is_front s.parts) s.is_back

tagged : (below k : ℕ) (t : Data) (back b : List ℕ) → is_tag k ≡ true → (k ≡ 108 → 0 < below) → k < 256
    → AfterTag below (Spells below) k t back → b ≡ k ∷ back → Tagged below t b
tagged below k t back b e h lt s p = record {
  value = k;
  front = k ∷ [];
  back = back;
  is_front = record { passes = may_stand-true below k e h; number = byte_number k lt };
  is_back = s;
  parts = p;
}

-- a tail lies a level below
some_below : (below : ℕ) (t : Data) (b : List ℕ) → Spells below t b → 0 < below
some_below zero t b s = absurd s
some_below (suc below) t b s = omega arith

-- any tag but that of LIST
other : (k below : ℕ) → (k == 108) ≡ false → k ≡ 108 → 0 < below
other k below p q = absurd (let z : (k == 108) ≡ true = rw q refl in cc)

term_back : (below : ℕ) (t : Data) (b : List ℕ) → Spells (suc below) t b → Tagged below t b
term_back below (int z) b (inl (inl s)) =
    tagged below 97 (int z) s.field b refl (other 97 below refl) (omega arith)
    (record { value = s.n; is_text = s.number; made = ap int s.value }) s.bytes
term_back below (int z) b (inl (inr (inl s))) =
    tagged below 98 (int z) s.field b refl (other 98 below refl) (omega arith)
    (record { value = s.n; is_text = s.number; made = ap int s.value }) s.bytes
term_back below (int z) b (inl (inr (inr s))) =
    let m = big_back z b s in tagged below 110 (int z) m.0 b refl (other 110 below refl) (omega arith) m.1 m.2
term_back below (atom a) b (inl (inl s)) =
    let m = atom_back 119 1 a b s in
    tagged below 119 (atom a) m.0 b refl (other 119 below refl) (omega arith) (record { value = a; is_text = m.1; made = refl }) m.2
term_back below (atom a) b (inl (inr (inl s))) =
    let m = atom_back 118 2 a b s in
    tagged below 118 (atom a) m.0 b refl (other 118 below refl) (omega arith) (record { value = a; is_text = m.1; made = refl }) m.2
term_back below (atom a) b (inl (inr (inr (inl s)))) =
    let m = latin_back 115 1 a b s in
    tagged below 115 (atom a) m.0 b refl (other 115 below refl) (omega arith) (record { value = a; is_text = m.1; made = refl }) m.2
term_back below (atom a) b (inl (inr (inr (inr s)))) =
    let m = latin_back 100 2 a b s in
    tagged below 100 (atom a) m.0 b refl (other 100 below refl) (omega arith) (record { value = a; is_text = m.1; made = refl }) m.2
term_back below (tuple ts) b (inl (inl s)) =
    let m = tuple_back below 104 1 ts b (λ n c k. let l = number_1 n c k in omega arith) s in
    tagged below 104 (tuple ts) m.0 b refl (other 104 below refl) (omega arith) m.1 m.2
term_back below (tuple ts) b (inl (inr s)) =
    let m = tuple_back below 105 4 ts b number_4 s in tagged below 105 (tuple ts) m.0 b refl (other 105 below refl) (omega arith) m.1 m.2
term_back below (list ts) b (inl (inl s)) =
    tagged below 106 (list ts) [] b refl (other 106 below refl) (omega arith) (ap list s.0, refl) s.1
term_back below (list ts) b (inl (inr s)) =
    tagged below 107 (list ts) (s.len ++ s.letters) b refl (other 107 below refl) (omega arith) (subst
    (λ (us : Items). Sized 2 listed (list us) (s.len ++ s.letters)) (sym s.value)
    (sized_back 2 listed s.letters s.len s.are_bytes s.number)) s.bytes
term_back below (improper ts t) b (inl s) = absurd s
term_back below (binary a) b (inl s) =
    tagged below 109 (binary a) (s.len ++ a) b refl (other 109 below refl) (omega arith)
    (sized_back 4 binary a s.len s.are_bytes s.number) s.bytes
term_back below (pid p) b (inl s) =
    let m = pid_back p b s in
    tagged below 88 (pid p) m.0 b refl (other 88 below refl) (omega arith) (record { value = p; is_text = m.1; made = refl }) m.2
term_back below (reference r) b (inl s) =
    let m = reference_back r b s in
    tagged below 90 (reference r) m.0 b refl (other 90 below refl) (omega arith) (record { value = r; is_text = m.1; made = refl }) m.2
term_back below t b (inr s) =
    let m = list_back below t b s in tagged below 108 t m.0 b refl (λ q. some_below below s.last s.tail s.is_tail) (omega arith) m.1 m.2

pub term_same : (below : ℕ) (bytes : List ℕ)
    → read_term (suc below) bytes ≡ and_then (byte_where (may_stand below) tag_fault) (row_with below (read_term below)) bytes
unfolding read_term
term_same below bytes = bind_where (may_stand below) tag_fault (row_with below (read_term below)) bytes (tag_fails below (read_term below))

pub Reads-tag : (below : ℕ) → Reads (IsByteWhere (may_stand below)) (byte_where (may_stand below) tag_fault)
Reads-tag below = Reads-where (may_stand below) tag_fault fault_not_cut 97 refl (omega arith)

pub Reads-term : (levels : ℕ) → 0 < levels → Reads (Spells levels) (read_term levels)
Reads-term zero lt = absurd (omega arith)
Reads-term (suc below) lt =
    Reads-by (Spells (suc below)) (and_then (byte_where (may_stand below) tag_fault) (row_with below (read_term below)))
    (read_term (suc below)) (term_same below)
    (Reads-same (Tagged below) (Spells (suc below))
    (and_then (byte_where (may_stand below) tag_fault) (row_with below (read_term below))) (term_to below) (term_back below)
    (Reads-then (IsByteWhere (may_stand below)) (AfterTag below (Spells below)) (byte_where (may_stand below) tag_fault)
    (row_with below (read_term below)) (Reads-tag below)
    (λ k b s. tag_rows below (Spells below) (read_term below) (Reads-term below) k (stands below k s.passes))))

-- ---- with the version byte

abbrev pub is_version : ℕ → Bool
is_version k = k == 131

abbrev pub version_row : ℕ → ℕ → List ℕ → Read Data
version_row levels k bytes = cond (k == 131) (read_term levels bytes) (Err Malformed)

pub version_fails : (levels k : ℕ) (bytes : List ℕ) → is_version k ≡ false → version_row levels k bytes ≡ Err Malformed
version_fails levels k bytes e = rw e refl

pub version_rows : (levels : ℕ) → 0 < levels → (k : ℕ) → is_version k ≡ true → Reads (Spells levels) (version_row levels k)
version_rows levels lt k e = subst (λ (j : ℕ). Reads (Spells levels) (version_row levels j)) (sym (eqb-true k 131 e)) (Reads-term levels lt)

abbrev Versioned : ℕ → Data → List ℕ → Type 0
Versioned levels = Then (IsByteWhere is_version) (λ k. Spells levels)

versioned_to : (levels : ℕ) (t : Data) (b : List ℕ) → Versioned levels t b → IsSpelling levels t b
versioned_to levels t b s = record {
  term = s.back;
  spelled = s.is_back;
  bytes = s.parts ∙ ap (λ (w : List ℕ). w ++ s.back) (one_byte s.value s.front s.is_front.number)
      ∙ ap (λ (j : ℕ). j ∷ s.back) (eqb-true s.value 131 s.is_front.passes);
}

versioned_back : (levels : ℕ) (t : Data) (b : List ℕ) → IsSpelling levels t b → Versioned levels t b
versioned_back levels t b s = record {
  value = 131;
  front = 131 ∷ [];
  back = s.term;
  is_front = record { passes = refl; number = byte_number 131 (omega arith) };
  is_back = s.spelled;
  parts = s.bytes;
}

pub Reads-spelling : Reads (IsSpelling 64) read_spelling
unfolding read_spelling
Reads-spelling =
    Reads-by (IsSpelling 64) (and_then (byte_where is_version (λ k. Malformed)) (version_row 64)) read_spelling
    (λ bytes. bind_where is_version (λ k. Malformed) (version_row 64) bytes (version_fails 64))
    (Reads-same (Versioned 64) (IsSpelling 64) (and_then (byte_where is_version (λ k. Malformed)) (version_row 64))
    (versioned_to 64) (versioned_back 64)
    (Reads-then (IsByteWhere is_version) (λ k. Spells 64) (byte_where is_version (λ k. Malformed)) (version_row 64)
    (Reads-where is_version (λ k. Malformed) (λ k e. cc) 131 refl (omega arith))
    (λ k b s. version_rows 64 (omega arith) k s.passes)))
