-- Why each row of the table is at fault.
use Rattle.std.proofs.Common.{[], ◌≡◌, ◌≢◌, ℕ, zero, suc, ◌+◌, ◌-◌, ◌^◌, ◌<◌, ◌≤◌, Bool, true, false, cond, List, ◌∷◌}
use Rattle.std.proofs.Common.{◌++◌, length, get_or, Err, refl, sym, ap, subst, ◌∙◌, append_assoc, arith, ◌⊎◌, inl, inr}
use Rattle.std.specs.Prelude.{pos, nat_lt, ◌==◌, replicate}
use Rattle.std.specs.Int.{w32, cast_signed}
use Rattle.std.proofs.lemmas.List.{length-append, length-replicate}
use Rattle.std.proofs.lemmas.Bool.{eqb-true}
use Rattle.byteorder.specs.Endian.{big_number}
use Rattle.erl_term.specs.declared.error.TermError.{TermError}
use Rattle.erl_term.specs.declared.error.TermError.TheVariants.{Cut, Malformed, OutOfProfile, TooDeep}
use Rattle.erl_term.specs.Numbers.{AreBytes}
use Rattle.erl_term.specs.Data.{Data, int, atom, tuple, list, binary, pid, reference, Items, no_items, item, count, append_items}
use Rattle.erl_term.specs.Spelling.{IsNumber, SpellAll, IsTuple, Spells}
use Rattle.erl_term.specs.Faults.{tags, is_tag, Nested, IsBadBig, IsTooDeep, IsOutOfProfile}
use Rattle.erl_term.specs.Reading.{Read, read_number, read_bounded, read_small, read_integer, read_big}
use Rattle.erl_term.specs.Reading.{read_atom, read_latin, read_pid, read_reference}
use Rattle.erl_term.specs.Reading.{read_string, read_binary, items_with, arities, tuple_with, list_with, row_with, read_term, read_spelling}
use Rattle.erl_term.proofs.Readers.{AreBytes-split, Begins, Reads, and_then, Mapped, Reads-map}
use Rattle.erl_term.proofs.Readers.{Explains, Explains-weaker, Explains-by, Explains-then, Explains-map, map_read}
use Rattle.erl_term.proofs.Base.{AreBytes-padded, big_number-padded, byte_where, bind_where}
use Rattle.erl_term.proofs.Base.{IsByteWhere, Reads-where, IsNumberTo, Reads-number}
use Rattle.erl_term.proofs.Rows.{AreItems, Reads-items, some_below}
use Rattle.erl_term.proofs.Bytes.{one_byte}
use Rattle.erl_term.proofs.Canonical.{four_bytes}
use Rattle.erl_term.proofs.Tags.{each_found}
use Rattle.erl_term.proofs.Pieces.{listed}
use Rattle.erl_term.proofs.Table.{tag_rows, term_same, AfterTag, may_stand, tag_fault, fault_not_cut, Reads-tag}
use Rattle.erl_term.proofs.Table.{Stands, stands, Reads-term, is_version, version_row, version_fails, version_rows}
use Rattle.erl_term.proofs.TableRows.{cells_at, list_same}
use Rattle.erl_term.proofs.WhyLists.{Explains-cells}
use Rattle.erl_term.proofs.Why.{Nothing, IsOnly, Explains-any, TooMuch, Explains-number, IsUnknown, Explains-where}
use Rattle.erl_term.proofs.Why.{Why, unknown, in_big, by_levels, elsewhere, WhyItems, Explains-items, one_more}
use Rattle.erl_term.proofs.Why.{all_more, filled_count, spell_append, zero_items, zero_bytes, zero_count, zero_spelled}
use Rattle.erl_term.proofs.WhyValues.{Explains-atom, Explains-latin, Explains-pid, Explains-sized, Explains-reference, BigWhy, Explains-big}

-- ---- tuples

-- a number of which some bytes are there
number_begun : (width : ℕ) (bytes : List ℕ) → AreBytes bytes → length bytes ≤ width
    → IsNumber width (big_number width bytes) (bytes ++ replicate (width - length bytes) 0)
number_begun width bytes h le = record {
  len = omega (arith, length-append bytes (replicate (width - length bytes) 0), length-replicate {A = ℕ} (width - length bytes) 0);
  bytes = AreBytes-padded bytes (width - length bytes) h;
  says = big_number-padded width bytes (width - length bytes);
}

-- a tuple whose arity was read, with some elements and one that was begun, is filled up
tuple_filled : (m width n : ℕ) (k : ℕ) (arity elements inner more : List ℕ) (before : Items) (t : Data)
    → IsNumber width n arity → SpellAll (Spells (suc m)) before elements → Spells (suc m) t (inner ++ more) → count before < n
    → IsTuple (Spells (suc m)) k width (append_items before (item t (zero_items (n - (count before + 1)))))
    ((k ∷ (arity ++ (elements ++ inner))) ++ (more ++ zero_bytes (n - (count before + 1))))
tuple_filled m width n k arity elements inner more before t num s u lt = record {
  arity = arity;
  elements = elements ++ ((inner ++ more) ++ zero_bytes (n - (count before + 1)));
  number = subst (λ (j : ℕ). IsNumber width j arity) (sym (filled_count before t n lt)) num;
  spelled = spell_append (Spells (suc m)) before (item t (zero_items (n - (count before + 1)))) elements
      ((inner ++ more) ++ zero_bytes (n - (count before + 1))) s
      (inner ++ more, zero_bytes (n - (count before + 1)), u, zero_spelled m (n - (count before + 1)), refl);
  bytes = ap (λ (w : List ℕ). k ∷ w) (simp append_assoc);
}

-- one whose arity was begun too
arity_filled : (m width k : ℕ) (bytes : List ℕ) → AreBytes bytes → length bytes ≤ width
    → IsTuple (Spells (suc m)) k width (zero_items (big_number width bytes))
    ((k ∷ bytes) ++ (replicate (width - length bytes) 0 ++ zero_bytes (big_number width bytes)))
arity_filled m width k bytes h le = record {
  arity = bytes ++ replicate (width - length bytes) 0;
  elements = zero_bytes (big_number width bytes);
  number = subst (λ (j : ℕ). IsNumber width j (bytes ++ replicate (width - length bytes) 0))
      (sym (zero_count (big_number width bytes))) (number_begun width bytes h le);
  spelled = zero_spelled m (big_number width bytes);
  bytes = ap (λ (w : List ℕ). k ∷ w) (sym (append_assoc bytes (replicate (width - length bytes) 0) (zero_bytes (big_number width bytes))));
}

-- which rows are tuples
data Row (k width : ℕ) : Type 0 where
  row104 : k ≡ 104 → width ≡ 1 → Row k width
  row105 : k ≡ 105 → width ≡ 4 → Row k width

row_spells : (m k width : ℕ) (ts : Items) (b : List ℕ) → Row k width → IsTuple (Spells m) k width ts b → Spells (suc m) (tuple ts) b
row_spells m k width ts b (row104 p q) s =
    inl (inl (subst (λ (j : ℕ). IsTuple (Spells m) j 1 ts b) p (subst (λ (w : ℕ). IsTuple (Spells m) k w ts b) q s)))
row_spells m k width ts b (row105 p q) s =
    inl (inr (subst (λ (j : ℕ). IsTuple (Spells m) j 4 ts b) p (subst (λ (w : ℕ). IsTuple (Spells m) k w ts b) q s)))

row_is : (k width : ℕ) → Row k width → ((k ≡ 104) × (width ≡ 1)) ⊎ ((k ≡ 105) × (width ≡ 4))
row_is k width (row104 p q) = inl (p, q)
row_is k width (row105 p q) = inr (p, q)

in_tuple : (below k width n : ℕ) (At : List ℕ → Type 0) (arity inner : List ℕ) (w-before : Items) (w-elements w-inner : List ℕ)
    → Row k width → IsNumber width n arity → SpellAll (Spells below) w-before w-elements → count w-before < n
    → inner ≡ w-elements ++ w-inner → Nested below At w-inner → Nested (suc below) At (k ∷ (arity ++ inner))
in_tuple below k width n At arity inner before elements last r num s lt p at = inr (inl (record {
  tag = k;
  width = width;
  arity = arity;
  n = n;
  before = before;
  elements = elements;
  inner = last;
  is_tuple = row_is k width r;
  number = num;
  spelled = s;
  left = lt;
  at = at;
  parts = ap (λ (v : List ℕ). k ∷ (arity ++ v)) p;
}))

regroup5 : (k b : ℕ) (a e l m : List ℕ) → (k ∷ (a ++ (e ++ (l ++ b ∷ [])))) ++ m ≡ ((k ∷ (a ++ (e ++ l))) ++ b ∷ []) ++ m
regroup5 k b a e l m =
    ap (λ (w : List ℕ). (k ∷ w) ++ m) (sym (append_assoc a (e ++ l) (b ∷ []) ∙ ap (λ (w : List ℕ). a ++ w) (append_assoc e l (b ∷ []))))

items_why : (below k width n : ℕ) (arity inner : List ℕ) (byte : ℕ) (e : TermError) → Row k width → IsNumber width n arity
    → WhyItems below n inner byte e → (w-before : Items) (w-elements w-inner : List ℕ)
    → SpellAll (Spells below) w-before w-elements → count w-before < n → inner ≡ w-elements ++ w-inner
    → Why below w-inner byte e → Why (suc below) (k ∷ (arity ++ inner)) byte e
items_why below k width n arity inner byte e r num w before elements last s lt p (unknown q t at) =
    unknown q t (in_tuple below k width n (λ i. i ≡ []) arity inner before elements last r num s lt p at)
items_why below k width n arity inner byte e r num w before elements last s lt p (in_big q at) =
    in_big q (in_tuple below k width n (IsBadBig byte) arity inner before elements last r num s lt p at)
items_why below k width n arity inner byte e r num w before elements last s lt p (elsewhere q) = elsewhere q
items_why below k width n arity inner byte e r num w before elements last s lt p (by_levels q b) =
    by_levels q (record {
      value = tuple (append_items before (item b.value (zero_items (n - (count before + 1)))));
      more = b.more ++ zero_bytes (n - (count before + 1));
      is_text = row_spells (suc below) k width _ _ r
          (subst (IsTuple (Spells (suc below)) k width (append_items before (item b.value (zero_items (n - (count before + 1)))))) same
          (tuple_filled below width n k arity elements (last ++ byte ∷ []) b.more before b.value num
          (all_more (Spells below) (Spells (suc below)) (one_more below) before elements s) b.is_text lt));
    })
  where
    same : (k ∷ (arity ++ (elements ++ (last ++ byte ∷ [])))) ++ (b.more ++ zero_bytes (n - (count before + 1)))
        ≡ ((k ∷ (arity ++ inner)) ++ byte ∷ []) ++ (b.more ++ zero_bytes (n - (count before + 1)))
    same = regroup5 k byte arity elements last (b.more ++ zero_bytes (n - (count before + 1)))
        ∙ ap (λ (v : List ℕ). ((k ∷ (arity ++ v)) ++ byte ∷ []) ++ (b.more ++ zero_bytes (n - (count before + 1)))) (sym p)

small_width : (k width : ℕ) (bytes : List ℕ) → Row k width → AreBytes bytes → big_number width bytes < 2 ^ 32
small_width k width bytes (row104 p q) h = rw q (let b = h 0 in let e : big_number 1 bytes ≡ get_or bytes 0 0 = omega arith in omega arith)
small_width k width bytes (row105 p q) h = rw q (let b0 = h 0 in let b1 = h 1 in let b2 = h 2 in let b3 = h 3 in omega arith)

number_why : (below k width : ℕ) (front : List ℕ) (byte : ℕ) (e : TermError) → Row k width → AreBytes (front ++ byte ∷ [])
    → TooMuch (arities below) width TooDeep front byte e → Why (suc below) (k ∷ front) byte e
number_why below k width front byte e r h w =
    by_levels w.is_fault (record {
      value = tuple (zero_items (big_number width (front ++ byte ∷ [])));
      more = replicate (width - length (front ++ byte ∷ [])) 0 ++ zero_bytes (big_number width (front ++ byte ∷ []));
      is_text = row_spells (suc below) k width _ _ r
          (arity_filled below width k (front ++ byte ∷ []) h (let l = w.short in omega (arith, length-append front (byte ∷ []))));
    })

tuple_why : (below k width : ℕ) → Row k width
    → (0 < below → Reads (Spells below) (read_term below) × Explains (Why below) (read_term below))
    → (front : List ℕ) (byte : ℕ) (e : TermError) → AreBytes (front ++ byte ∷ []) → e ≢ Cut
    → tuple_with below (read_term below) width front ≡ Err Cut
    → tuple_with below (read_term below) width (front ++ byte ∷ []) ≡ Err e → Why (suc below) (k ∷ front) byte e
unfolding tuple_with
tuple_why below k width r both front byte e h c l m =
    (Explains-then (IsNumberTo (arities below) width) (λ n. Mapped tuple (AreItems (Spells below) n))
    (read_bounded TooDeep (arities below) width) (λ n bytes. map_read tuple (items_with (read_term below) n bytes))
    (Reads-number TooDeep (arities below) width (λ e. cc))
    (λ n text s. Reads-map tuple (AreItems (Spells below) n) (items_with (read_term below) n)
    (Reads-items (Spells below) (read_term below) n (λ some. (both (some_below below n s.bound some)).0)))
    (λ front byte e. AreBytes (front ++ byte ∷ []) → TooMuch (arities below) width TooDeep front byte e)
    (λ n. WhyItems below n) (λ front byte e. AreBytes (front ++ byte ∷ []) → Why (suc below) (k ∷ front) byte e)
    (Explains-weaker (TooMuch (arities below) width TooDeep)
    (λ front byte e. AreBytes (front ++ byte ∷ []) → TooMuch (arities below) width TooDeep front byte e)
    (read_bounded TooDeep (arities below) width) (λ front byte e w h. w)
    (Explains-number TooDeep (arities below) width (λ e. cc)))
    (λ n text s. Explains-map tuple (WhyItems below n) (items_with (read_term below) n)
    (Explains-items below n (λ some. both (some_below below n s.bound some))))
    (λ front byte e w h. number_why below k width front byte e r h (w h))
    (λ n text inner byte e s w h. items_why below k width n text inner byte e r s.number w w.before w.elements w.inner
    w.spelled w.left w.parts w.why)).why front byte e h c l m h

-- ---- the table

abbrev RowWhy : ℕ → ℕ → List ℕ → ℕ → TermError → Type 0
RowWhy below k inner byte e = AreBytes (inner ++ byte ∷ []) → Why (suc below) (k ∷ inner) byte e

nothing_why : {A : Type 0} (f : A → Data) (below k : ℕ) (read : List ℕ → Read A) → Explains Nothing read
    → Explains (RowWhy below k) (λ bytes. map_read f (read bytes))
nothing_why f below k read x =
    Explains-weaker Nothing (RowWhy below k) (λ bytes. map_read f (read bytes)) (λ front byte e w h. absurd w)
    (Explains-map f Nothing read x)

malformed_why : {A : Type 0} (f : A → Data) (below k : ℕ) (read : List ℕ → Read A) → Explains (IsOnly Malformed) read
    → Explains (RowWhy below k) (λ bytes. map_read f (read bytes))
malformed_why f below k read x =
    Explains-weaker (IsOnly Malformed) (RowWhy below k) (λ bytes. map_read f (read bytes)) (λ front byte e w h. elsewhere w)
    (Explains-map f (IsOnly Malformed) read x)

big_row : (below : ℕ) (front : List ℕ) (byte : ℕ) (e : TermError) → BigWhy front byte e → RowWhy below 110 front byte e
big_row below front byte e (inl w) h = elsewhere w
big_row below front byte e (inr w) h = in_big w.0 (inl w.1)

list_row : (below : ℕ) → (0 < below → Reads (Spells below) (read_term below) × Explains (Why below) (read_term below)) → 0 < below
    → Explains (RowWhy below 108) (list_with below (read_term below))
list_row below both lt =
    let b = both lt in
    Explains-weaker (λ front byte e. Why (suc below) (108 ∷ front) byte e) (RowWhy below 108)
    (list_with below (read_term below)) (λ front byte e w h. w)
    (Explains-by (λ front byte e. Why (suc below) (108 ∷ front) byte e) (cells_at (read_term below))
    (list_with below (read_term below)) (λ bytes. list_same below (read_term below) bytes lt) (Explains-cells below b.0 b.1))

quiet_row : (below k : ℕ) (read : List ℕ → Read Data) → Explains Nothing read → Explains (RowWhy below k) read
quiet_row below k read x = Explains-weaker Nothing (RowWhy below k) read (λ front byte e w h. absurd w) x

abbrev Explained : ℕ → ℕ → Type 0
Explained below k = (k ≡ 108 → 0 < below) → Explains (RowWhy below k) (row_with below (read_term below) k)

row_why : (below k : ℕ) → Stands below k
    → (0 < below → Reads (Spells below) (read_term below) × Explains (Why below) (read_term below))
    → Explains (RowWhy below k) (row_with below (read_term below) k)
unfolding row_with read_small read_integer read_string read_binary
row_why below k s both = each_found (Explained below) tags (
  λ h. nothing_why (λ n. int (pos n)) below 97 (read_number 1) (Explains-any 1),
  (
    λ h. nothing_why (λ n. int (cast_signed w32 n)) below 98 (read_number 4) (Explains-any 4),
    (
      λ h. Explains-weaker BigWhy (RowWhy below 110) read_big (big_row below) Explains-big,
      (
        λ h. malformed_why atom below 119 (read_atom 1) (Explains-atom 1),
        (
          λ h. malformed_why atom below 118 (read_atom 2) (Explains-atom 2),
          (
            λ h. malformed_why atom below 115 (read_latin 1) (Explains-latin 1),
            (
              λ h. malformed_why atom below 100 (read_latin 2) (Explains-latin 2),
              (
                λ h. record { why = λ front byte f h c l m g. tuple_why below 104 1 (row104 refl refl) both front byte f h c l m },
                (
                  λ h. record { why = λ front byte f h c l m g. tuple_why below 105 4 (row105 refl refl) both front byte f h c l m },
                  (
                    λ h. record { why = λ front byte f h c l m g. absurd cc },
                    (
                      λ h. quiet_row below 107 read_string (Explains-sized 2 listed),
                      (
                        λ h. list_row below both (h refl),
                        (
                          λ h. quiet_row below 109 read_binary (Explains-sized 4 binary),
                          (
                            λ h. malformed_why pid below 88 read_pid Explains-pid,
                            (λ h. malformed_why reference below 90 read_reference Explains-reference, tt),
                          ),
                        ),
                      ),
                    ),
                  ),
                ),
              ),
            ),
          ),
        ),
      ),
    ),
  ),
) k s.tag s.level

abbrev TermWhy : ℕ → List ℕ → ℕ → TermError → Type 0
TermWhy levels front byte e = AreBytes (front ++ byte ∷ []) → Why levels front byte e

-- a list at the last level is one of two levels
list_begins : (below byte : ℕ) → byte ≡ 108 → Begins (Spells (suc (suc below))) (byte ∷ [])
list_begins below byte e = record {
  value = list no_items;
  more = 0 ∷ 0 ∷ 0 ∷ 0 ∷ 106 ∷ [];
  is_text = inr (record {
    items = no_items;
    last = list no_items;
    len = 0 ∷ 0 ∷ 0 ∷ 0 ∷ [];
    elements = [];
    tail = 106 ∷ [];
    number = four_bytes 0 (omega arith);
    spelled = refl;
    is_tail = inl (inl (refl, refl));
    value = refl;
    bytes = ap (λ (j : ℕ). j ∷ 0 ∷ 0 ∷ 0 ∷ 0 ∷ 106 ∷ []) e;
  });
}

unknown_why : (below : ℕ) (front : List ℕ) (byte : ℕ) (e : TermError) → IsUnknown (may_stand below) tag_fault front byte e
    → TermWhy (suc below) front byte e
unknown_why below front byte e w h = by (byte == 108) refl w.fails w.is_fault
  where
    by : (b : Bool) → (byte == 108) ≡ b → cond b (nat_lt 0 below) (is_tag byte) ≡ false
        → e ≡ cond b TooDeep (OutOfProfile byte) → Why (suc below) front byte e
    by true p f q =
        by_levels q (subst (λ (v : List ℕ). Begins (Spells (suc (suc below))) (v ++ byte ∷ [])) (sym w.first)
        (list_begins below byte (eqb-true byte 108 p)))
    by false p f q = unknown q f (inl w.first)

tagged_why : (below k : ℕ) (text inner : List ℕ) (byte : ℕ) (e : TermError) → IsByteWhere (may_stand below) k text
    → RowWhy below k inner byte e → TermWhy (suc below) (text ++ inner) byte e
tagged_why below k text inner byte e s w h =
    let t = one_byte k text s.number in
    let split : (text ++ inner) ++ byte ∷ [] ≡ k ∷ (inner ++ byte ∷ []) = ap (λ (v : List ℕ). (v ++ inner) ++ byte ∷ []) t in
    let fits : AreBytes (inner ++ byte ∷ []) = AreBytes-split ((text ++ inner) ++ byte ∷ []) (k ∷ []) (inner ++ byte ∷ []) h split in
    subst (λ (v : List ℕ). Why (suc below) (v ++ inner) byte e) (sym t) (w fits)

pub Explains-term : (levels : ℕ) → 0 < levels → Explains (TermWhy levels) (read_term levels)
Explains-term zero lt = absurd (omega arith)
Explains-term (suc below) lt =
    let both : 0 < below → Reads (Spells below) (read_term below) × Explains (Why below) (read_term below) =
    λ some. (Reads-term below some, record { why = λ front byte e h c k l. (Explains-term below some).why front byte e h c k l h }) in
    Explains-by (TermWhy (suc below)) (and_then (byte_where (may_stand below) tag_fault) (row_with below (read_term below)))
    (read_term (suc below)) (term_same below)
    (Explains-then (IsByteWhere (may_stand below)) (AfterTag below (Spells below)) (byte_where (may_stand below) tag_fault)
    (row_with below (read_term below)) (Reads-tag below)
    (λ k b s. tag_rows below (Spells below) (read_term below) (Reads-term below) k (stands below k s.passes))
    (IsUnknown (may_stand below) tag_fault) (RowWhy below) (TermWhy (suc below))
    (Explains-where (may_stand below) tag_fault fault_not_cut) (λ k b s. row_why below k (stands below k s.passes) both)
    (unknown_why below) (tagged_why below))

-- ---- with the version byte

pub data SpellWhy (front : List ℕ) (byte : ℕ) (e : TermError) : Type 0 where
  malformed : e ≡ Malformed → SpellWhy front byte e
  within : (inner : List ℕ) → front ≡ 131 ∷ inner → Why 64 inner byte e → SpellWhy front byte e

version_explains : (k : ℕ) → is_version k ≡ true → Explains (TermWhy 64) (version_row 64 k)
version_explains k e = subst (λ (j : ℕ). Explains (TermWhy 64) (version_row 64 j)) (sym (eqb-true k 131 e)) (Explains-term 64 (omega arith))

spell_first : (front : List ℕ) (byte : ℕ) (e : TermError) → IsUnknown is_version (λ k. Malformed) front byte e
    → AreBytes (front ++ byte ∷ []) → SpellWhy front byte e
spell_first front byte e w h = malformed w.is_fault

spell_within : (k : ℕ) (text inner : List ℕ) (byte : ℕ) (e : TermError) → IsByteWhere is_version k text
    → TermWhy 64 inner byte e → AreBytes ((text ++ inner) ++ byte ∷ []) → SpellWhy (text ++ inner) byte e
spell_within k text inner byte e s w h =
    let t = one_byte k text s.number in
    let t131 : text ≡ 131 ∷ [] = t ∙ ap (λ (j : ℕ). j ∷ []) (eqb-true k 131 s.passes) in
    let split : (text ++ inner) ++ byte ∷ [] ≡ k ∷ (inner ++ byte ∷ []) = ap (λ (v : List ℕ). (v ++ inner) ++ byte ∷ []) t in
    let fits : AreBytes (inner ++ byte ∷ []) = AreBytes-split ((text ++ inner) ++ byte ∷ []) (k ∷ []) (inner ++ byte ∷ []) h split in
    within inner (ap (λ (v : List ℕ). v ++ inner) t131) (w fits)

pub Explains-spelling : Explains (λ front byte e. AreBytes (front ++ byte ∷ []) → SpellWhy front byte e) read_spelling
unfolding read_spelling
Explains-spelling =
    Explains-by (λ front byte e. AreBytes (front ++ byte ∷ []) → SpellWhy front byte e)
    (and_then (byte_where is_version (λ k. Malformed)) (version_row 64)) read_spelling
    (λ bytes. bind_where is_version (λ k. Malformed) (version_row 64) bytes (version_fails 64))
    (Explains-then (IsByteWhere is_version) (λ k. Spells 64) (byte_where is_version (λ k. Malformed)) (version_row 64)
    (Reads-where is_version (λ k. Malformed) (λ k e. cc) 131 refl (omega arith))
    (λ k b s. version_rows 64 (omega arith) k s.passes)
    (IsUnknown is_version (λ k. Malformed)) (λ k. TermWhy 64)
    (λ front byte e. AreBytes (front ++ byte ∷ []) → SpellWhy front byte e)
    (Explains-where is_version (λ k. Malformed) (λ k e. cc)) (λ k b s. version_explains k s.passes)
    spell_first spell_within)

-- ---- the kinds

-- what the reader answers, as the kinds say it
pub data Kind (front : List ℕ) (byte : ℕ) (e : TermError) : Type 0 where
  out_of_profile : (tag : ℕ) → e ≡ OutOfProfile tag → IsOutOfProfile front byte tag → Kind front byte e
  too_deep : e ≡ TooDeep → IsTooDeep front byte → Kind front byte e
  is_malformed : e ≡ Malformed → Kind front byte e

kind_within : (inner : List ℕ) (byte : ℕ) (e : TermError) → Why 64 inner byte e → Kind (131 ∷ inner) byte e
kind_within inner byte e (unknown q t at) = out_of_profile byte q (inl (refl, (record { inner = inner; nested = at; parts = refl }, t)))
kind_within inner byte e (in_big q at) = out_of_profile 110 q (inr (refl, record { inner = inner; nested = at; parts = refl }))
kind_within inner byte e (by_levels q b) =
    too_deep q (
      65,
      record
          { value = b.value; more = b.more; is_text = record { term = (inner ++ byte ∷ []) ++ b.more; spelled = b.is_text; bytes = refl } },
    )
kind_within inner byte e (elsewhere q) = is_malformed q

pub kind_of : (front : List ℕ) (byte : ℕ) (e : TermError) → SpellWhy front byte e → Kind front byte e
kind_of front byte e (malformed q) = is_malformed q
kind_of front byte e (within inner p w) = subst (λ (v : List ℕ). Kind v byte e) (sym p) (kind_within inner byte e w)
