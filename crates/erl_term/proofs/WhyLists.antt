-- Why a list is at fault.
use Rattle.std.proofs.Common.{◌≡◌, ℕ, suc, ◌+◌, ◌-◌, ◌<◌, ◌≤◌, List, [], ◌∷◌, ◌++◌}
use Rattle.std.proofs.Common.{refl, sym, ap, subst, ◌∙◌, append_assoc, arith, inl, inr}
use Rattle.std.proofs.lemmas.Bool.{cases_lt}
use Rattle.erl_term.specs.declared.error.TermError.{TermError}
use Rattle.erl_term.specs.Data.{Data, list, Items, no_items, item, count, append_items, joined}
use Rattle.erl_term.specs.Spelling.{IsNumber, SpellAll, IsList, Spells}
use Rattle.erl_term.specs.Faults.{Nested, IsBadBig}
use Rattle.erl_term.specs.Reading.{read_number, items_with, read_term}
use Rattle.erl_term.proofs.Readers.{Begins, Reads, and_then, Then, Mapped, Reads-map, Explains, Explains-then, Explains-map}
use Rattle.erl_term.proofs.Base.{Reads-any}
use Rattle.erl_term.proofs.Rows.{AreItems, Reads-items}
use Rattle.erl_term.proofs.TableRows.{tail_after, cells_at, Reads-tail}
use Rattle.erl_term.proofs.Why.{Nothing, Explains-any, Why, unknown, in_big, by_levels, elsewhere, WhyItems, Explains-items}
use Rattle.erl_term.proofs.Why.{one_more, all_more, filled_count, spell_append, zero_items, zero_bytes, zero_spelled}

-- so many items, of which some are whole, and then an item or the tail that isn't
pub record WhyCells (below n : ℕ) (front : List ℕ) (byte : ℕ) (e : TermError) : Type 0 where
  pub before : Items
  pub elements : List ℕ
  pub inner : List ℕ
  pub spelled : SpellAll (Spells below) before elements
  pub left : count before ≤ n
  pub parts : front ≡ elements ++ inner
  pub why : Why below inner byte e

-- a list with some of its items and one that was begun is filled up
item_filled : (m n : ℕ) (len elements inner more : List ℕ) (before : Items) (t : Data) → IsNumber 4 n len
    → SpellAll (Spells (suc m)) before elements → Spells (suc m) t (inner ++ more) → count before < n
    → IsList (Spells (suc m)) (joined (append_items before (item t (zero_items (n - (count before + 1))))) (list no_items))
    ((108 ∷ (len ++ (elements ++ inner))) ++ (more ++ (zero_bytes (n - (count before + 1)) ++ 106 ∷ [])))
item_filled m n len elements inner more before t num s u lt = record {
  items = append_items before (item t (zero_items (n - (count before + 1))));
  last = list no_items;
  len = len;
  elements = elements ++ ((inner ++ more) ++ zero_bytes (n - (count before + 1)));
  tail = 106 ∷ [];
  number = subst (λ (j : ℕ). IsNumber 4 j len) (sym (filled_count before t n lt)) num;
  spelled = spell_append (Spells (suc m)) before (item t (zero_items (n - (count before + 1)))) elements
      ((inner ++ more) ++ zero_bytes (n - (count before + 1))) s
      (inner ++ more, zero_bytes (n - (count before + 1)), u, zero_spelled m (n - (count before + 1)), refl);
  is_tail = inl (inl (refl, refl));
  value = refl;
  bytes = ap (λ (w : List ℕ). 108 ∷ w) (simp append_assoc);
}

-- and one with all its items and a tail that was begun
tail_filled : (m n : ℕ) (len elements inner more : List ℕ) (before : Items) (t : Data) → IsNumber 4 n len
    → SpellAll (Spells m) before elements → Spells m t (inner ++ more) → count before ≡ n
    → IsList (Spells m) (joined before t) ((108 ∷ (len ++ (elements ++ inner))) ++ more)
tail_filled m n len elements inner more before t num s u e = record {
  items = before;
  last = t;
  len = len;
  elements = elements;
  tail = inner ++ more;
  number = subst (λ (j : ℕ). IsNumber 4 j len) (sym e) num;
  spelled = s;
  is_tail = u;
  value = refl;
  bytes = ap (λ (w : List ℕ). 108 ∷ w) (simp append_assoc);
}

-- the bytes that were read, with one more
with_byte : (len elements inner more : List ℕ) (byte : ℕ)
    → (108 ∷ (len ++ (elements ++ (inner ++ byte ∷ [])))) ++ more ≡ ((108 ∷ (len ++ (elements ++ inner))) ++ byte ∷ []) ++ more
with_byte len elements inner more byte =
    ap (λ (w : List ℕ). (108 ∷ w) ++ more)
    (sym (append_assoc len (elements ++ inner) (byte ∷ []) ∙ ap (λ (w : List ℕ). len ++ w) (append_assoc elements inner (byte ∷ []))))

cells_begin : (below n : ℕ) (len elements inner : List ℕ) (before : Items) (byte : ℕ) → IsNumber 4 n len
    → SpellAll (Spells below) before elements → count before ≤ n → Begins (Spells (suc below)) (inner ++ byte ∷ [])
    → Begins (Spells (suc (suc below))) ((108 ∷ (len ++ (elements ++ inner))) ++ byte ∷ [])
cells_begin below n len elements inner before byte num s le b =
    let t = all_more (Spells below) (Spells (suc below)) (one_more below) before elements s in
    elim (cases_lt (count before) n) as (λ _. Begins (Spells (suc (suc below))) ((108 ∷ (len ++ (elements ++ inner))) ++ byte ∷ [])) [
      | inl lt ↦
          let more = b.more ++ (zero_bytes (n - (count before + 1)) ++ 106 ∷ []) in
          record {
            value = joined (append_items before (item b.value (zero_items (n - (count before + 1))))) (list no_items);
            more = more;
            is_text = inr (subst (IsList (Spells (suc below))
                (joined (append_items before (item b.value (zero_items (n - (count before + 1))))) (list no_items))) (with_byte
                len elements inner more byte) (item_filled below n len elements (inner ++ byte ∷ []) b.more before b.value num
                t b.is_text lt));
          }
      | inr ge ↦
          record {
            value = joined before b.value;
            more = b.more;
            is_text = inr (subst (IsList (Spells (suc below))
                (joined before b.value)) (with_byte len elements inner b.more byte) (tail_filled (suc below) n len elements
                (inner ++ byte ∷ []) b.more before b.value num t b.is_text (let z : count before ≡ n = omega arith in z)));
          }
    ]

in_list : (below n : ℕ) (At : List ℕ → Type 0) (len elements inner : List ℕ) (before : Items) → IsNumber 4 n len
    → SpellAll (Spells below) before elements → count before ≤ n → Nested below At inner
    → Nested (suc below) At (108 ∷ (len ++ (elements ++ inner)))
in_list below n At len elements inner before num s le at =
    inr (inr (record
    { len = len; n = n; before = before; elements = elements; inner = inner; number = num; spelled = s; left = le; at = at; parts = refl }))

cells_by : (below n : ℕ) (len elements inner : List ℕ) (before : Items) (byte : ℕ) (e : TermError) → IsNumber 4 n len
    → SpellAll (Spells below) before elements → count before ≤ n → Why below inner byte e
    → Why (suc below) (108 ∷ (len ++ (elements ++ inner))) byte e
cells_by below n len elements inner before byte e num s le (unknown q t at) =
    unknown q t (in_list below n (λ i. i ≡ []) len elements inner before num s le at)
cells_by below n len elements inner before byte e num s le (in_big q at) =
    in_big q (in_list below n (IsBadBig byte) len elements inner before num s le at)
cells_by below n len elements inner before byte e num s le (by_levels q b) =
    by_levels q (cells_begin below n len elements inner before byte num s le b)
cells_by below n len elements inner before byte e num s le (elsewhere q) = elsewhere q

cells_why : (below n : ℕ) (len inner : List ℕ) (byte : ℕ) (e : TermError) → IsNumber 4 n len → WhyCells below n inner byte e
    → Why (suc below) (108 ∷ (len ++ inner)) byte e
cells_why below n len inner byte e num w =
    subst (λ (v : List ℕ). Why (suc below) (108 ∷ (len ++ v)) byte e) (sym w.parts)
    (cells_by below n len w.elements w.inner w.before byte e num w.spelled w.left w.why)

-- why the reader of a list is at fault, behind its tag
pub Explains-cells : (below : ℕ) → Reads (Spells below) (read_term below) → Explains (Why below) (read_term below)
    → Explains (λ front byte e. Why (suc below) (108 ∷ front) byte e) (cells_at (read_term below))
Explains-cells below r x =
    Explains-then (IsNumber 4) (λ n. Then (AreItems (Spells below) n) (λ ts. Mapped (joined ts) (Spells below))) (read_number 4)
    (λ n. and_then (items_with (read_term below) n) (tail_after (read_term below))) (Reads-any 4)
    (λ n t s. Reads-tail (Spells below) (read_term below) r n)
    Nothing (WhyCells below) (λ front byte e. Why (suc below) (108 ∷ front) byte e) (Explains-any 4)
    (λ n t s. Explains-then (AreItems (Spells below) n) (λ ts. Mapped (joined ts) (Spells below))
    (items_with (read_term below) n) (tail_after (read_term below)) (Reads-items (Spells below) (read_term below) n (λ some. r))
    (λ ts u v. Reads-map (joined ts) (Spells below) (read_term below) r)
    (WhyItems below n) (λ ts. Why below) (WhyCells below n) (Explains-items below n (λ some. (r, x)))
    (λ ts u v. Explains-map (joined ts) (Why below) (read_term below) x)
    (λ front byte e w. record {
      before = w.before;
      elements = w.elements;
      inner = w.inner;
      spelled = w.spelled;
      left = (let k = w.left in omega arith);
      parts = w.parts;
      why = w.why;
    })
    (λ ts text inner byte e v w.
    record { before = ts; elements = text; inner = inner; spelled = v.1; left = (let k = v.0 in omega arith); parts = refl; why = w }))
    (λ front byte e w. absurd w)
    (λ n text inner byte e s w. cells_why below n text inner byte e s w)
