-- Why the reader is at fault with a byte, of bytes that it was inside of before.
use Rattle.std.proofs.Common.{◌≡◌, ◌≢◌, ℕ, zero, suc, ◌+◌, ◌-◌, ◌<◌, Bool, false, List, [], ◌∷◌, ◌++◌}
use Rattle.std.proofs.Common.{length, Ok, Err, refl, sym, ap, subst, ◌∙◌, append_assoc, arith, inl, inr}
use Rattle.std.specs.Prelude.{pos}
use Rattle.std.proofs.lemmas.List.{nil_from_length}
use Rattle.byteorder.specs.Endian.{big_number}
use Rattle.erl_term.specs.declared.error.TermError.{TermError}
use Rattle.erl_term.specs.declared.error.TermError.TheVariants.{Cut, Malformed, OutOfProfile, TooDeep}
use Rattle.erl_term.specs.Numbers.{AreBytes}
use Rattle.erl_term.specs.Data.{Data, int, tuple, Items, no_items, item, count, append_items}
use Rattle.erl_term.specs.Spelling.{SpellAll, IsTuple, IsList, SpellsBy, Spells}
use Rattle.erl_term.specs.Faults.{is_tag, Nested, IsBadBig}
use Rattle.erl_term.specs.Reading.{read_number, read_bounded, items_with, read_term}
use Rattle.erl_term.proofs.Readers.{Begins, Reads, AreBytes-nil, known, Mapped, Reads-map, Explains, Explains-then, Explains-map, map_read}
use Rattle.erl_term.proofs.Base.{ok_is, any_cut, number_err, where_err, byte_where}
use Rattle.erl_term.proofs.Rows.{AreItems, Reads-items}

-- ---- more levels allow no less

pub all_more : (S T : Data → List ℕ → Type 0) → ((t : Data) (b : List ℕ) → S t b → T t b) → (ts : Items) (b : List ℕ)
    → SpellAll S ts b → SpellAll T ts b
all_more S T to no_items b s = s
all_more S T to (item t ts) b s = (s.0, s.1, to t s.0 s.2, all_more S T to ts s.1 s.3, s.4)

tuple_more : (S T : Data → List ℕ → Type 0) → ((t : Data) (b : List ℕ) → S t b → T t b)
    → (tag width : ℕ) (ts : Items) (b : List ℕ) → IsTuple S tag width ts b → IsTuple T tag width ts b
tuple_more S T to tag width ts b s = record {
  arity = s.arity;
  elements = s.elements;
  number = s.number;
  spelled = all_more S T to ts s.elements s.spelled;
  bytes = s.bytes;
}

list_more : (S T : Data → List ℕ → Type 0) → ((t : Data) (b : List ℕ) → S t b → T t b) → (t : Data) (b : List ℕ)
    → IsList S t b → IsList T t b
list_more S T to t b s = record {
  items = s.items;
  last = s.last;
  len = s.len;
  elements = s.elements;
  tail = s.tail;
  number = s.number;
  spelled = all_more S T to s.items s.elements s.spelled;
  is_tail = to s.last s.tail s.is_tail;
  value = s.value;
  bytes = s.bytes;
}

row_more : (S T : Data → List ℕ → Type 0) → ((t : Data) (b : List ℕ) → S t b → T t b) → (t : Data) (b : List ℕ)
    → SpellsBy S t b → SpellsBy T t b
row_more S T to (tuple ts) b (inl s) = inl (tuple_more S T to 104 1 ts b s)
row_more S T to (tuple ts) b (inr s) = inr (tuple_more S T to 105 4 ts b s)
row_more S T to t b s = s

pub one_more : (levels : ℕ) (t : Data) (b : List ℕ) → Spells levels t b → Spells (suc levels) t b
one_more zero t b s = absurd s
one_more (suc below) t b (inl s) = inl (row_more (Spells below) (Spells (suc below)) (one_more below) t b s)
one_more (suc below) t b (inr s) = inr (list_more (Spells below) (Spells (suc below)) (one_more below) t b s)

-- ---- a tuple or a list that is filled up

pub count-append : (ts us : Items) → count (append_items ts us) ≡ count ts + count us
count-append no_items us = omega arith
count-append (item t ts) us = let e = count-append ts us in omega arith

pub spell_append : (S : Data → List ℕ → Type 0) (ts us : Items) (x y : List ℕ) → SpellAll S ts x → SpellAll S us y
    → SpellAll S (append_items ts us) (x ++ y)
spell_append S no_items us x y s t = subst (SpellAll S us) (ap (λ (w : List ℕ). w ++ y) (sym s)) t
spell_append S (item t ts) us x y s u =
    (s.0, s.1 ++ y, s.2, spell_append S ts us s.1 y s.3 u, ap (λ (w : List ℕ). w ++ y) s.4 ∙ append_assoc s.0 s.1 y)

pub zero_items : ℕ → Items
zero_items zero = no_items
zero_items (suc n) = item (int (pos 0)) (zero_items n)

pub zero_bytes : ℕ → List ℕ
zero_bytes zero = []
zero_bytes (suc n) = 97 ∷ 0 ∷ zero_bytes n

pub zero_count : (n : ℕ) → count (zero_items n) ≡ n
unfolding zero_items
zero_count zero = refl
zero_count (suc n) = let e = zero_count n in omega arith

-- how many there are, once zeros stand for those that are missing
pub filled_count : (before : Items) (t : Data) (n : ℕ) → count before < n
    → count (append_items before (item t (zero_items (n - (count before + 1))))) ≡ n
filled_count before t n lt =
    let a = count-append before (item t (zero_items (n - (count before + 1)))) in
    let b = zero_count (n - (count before + 1)) in omega arith

zero_byte : AreBytes (0 ∷ [])
zero_byte zero = omega arith
zero_byte (suc i) = AreBytes-nil i

pub zero_spelled : (below n : ℕ) → SpellAll (Spells (suc below)) (zero_items n) (zero_bytes n)
unfolding zero_items zero_bytes
zero_spelled below zero = refl
zero_spelled below (suc n) = (
  97 ∷ 0 ∷ [],
  zero_bytes n,
  inl
      (inl (record { n = 0; field = 0 ∷ []; number = record { len = refl; bytes = zero_byte; says = refl }; value = refl; bytes = refl })),
  zero_spelled below n,
  refl,
)

-- ---- the readers of fields

abbrev pub Nothing : List ℕ → ℕ → TermError → Type 0
Nothing front byte e = ⊥

abbrev pub IsOnly : TermError → List ℕ → ℕ → TermError → Type 0
IsOnly f front byte e = e ≡ f

pub Explains-any : (n : ℕ) → Explains Nothing (read_number n)
Explains-any n = record { why = λ front byte e h c k l. absurd (c (any_cut n (front ++ byte ∷ []) e l).1) }

pub record TooMuch (most n : ℕ) (fault : TermError) (front : List ℕ) (byte : ℕ) (e : TermError) : Type 0 where
  pub is_fault : e ≡ fault
  pub high : most < big_number n (front ++ byte ∷ [])
  pub short : length front < n

pub Explains-number : (fault : TermError) (most n : ℕ) → fault ≢ Cut → Explains (TooMuch most n fault) (read_bounded fault most n)
Explains-number fault most n c0 = record {
  why = λ front byte e h c k l.
      elim (number_err fault most n (front ++ byte ∷ []) e l) as (λ _. TooMuch most n fault front byte e) [
        | inl p ↦ elim (number_err fault most n front Cut k) as (λ _. TooMuch most n fault front byte e) [
          | inl q ↦ absurd (c0 q.1)
          | inr q ↦ record { is_fault = sym p.1; high = p.0; short = q.1 }
        ]
        | inr p ↦ absurd (c p.2)
      ];
}

pub record IsUnknown (test : ℕ → Bool) (fault : ℕ → TermError) (front : List ℕ) (byte : ℕ) (e : TermError) : Type 0 where
  pub first : front ≡ []
  pub fails : test byte ≡ false
  pub is_fault : e ≡ fault byte

pub Explains-where : (test : ℕ → Bool) (fault : ℕ → TermError) → ((k : ℕ) → fault k ≢ Cut)
    → Explains (IsUnknown test fault) (byte_where test fault)
Explains-where test fault c0 = record {
  why = λ front byte e h c k l.
      elim (where_err test fault front Cut (known (read_number 1 front)) k) as (λ _. IsUnknown test fault front byte e) [
        | inl p ↦
            let short = (any_cut 1 front Cut p).0 in let none = nil_from_length front (omega arith) in
            at_start byte e front none c (subst (λ (w : List ℕ). byte_where test fault (w ++ byte ∷ []) ≡ Err e) none l)
        | inr p ↦ absurd (c0 p.0.0 p.3)
      ];
}
  where
    at_start : (byte : ℕ) (e : TermError) (front : List ℕ) → front ≡ [] → e ≢ Cut → byte_where test fault (byte ∷ []) ≡ Err e
        → IsUnknown test fault front byte e
    at_start byte e front none c l =
        elim (where_err test fault (byte ∷ []) e (known (read_number 1 (byte ∷ []))) l) as (λ _. IsUnknown test fault front byte e) [
          | inl p ↦ absurd (c (any_cut 1 (byte ∷ []) e p).1)
          | inr p ↦
              let one : read_number 1 (byte ∷ []) ≡ Ok (big_number 1 (byte ∷ []), []) = refl in
              let same : (big_number 1 (byte ∷ []), []) ≡ p.0 = ok_is _ _ (sym one ∙ p.1) in
              let n : p.0.0 ≡ byte =
              let q : big_number 1 (byte ∷ []) ≡ p.0.0 = ap (λ (z : ℕ × List ℕ). z.0) same in
              let b : big_number 1 (byte ∷ []) ≡ byte = omega arith in sym q ∙ b in
              record { first = none; fails = ap test (sym n) ∙ p.2; is_fault = sym p.3 ∙ ap fault n }
        ]

-- ---- a term

pub data Why (levels : ℕ) (front : List ℕ) (byte : ℕ) (e : TermError) : Type 0 where
  unknown : e ≡ OutOfProfile byte → is_tag byte ≡ false → Nested levels (λ inner. inner ≡ []) front → Why levels front byte e
  in_big : e ≡ OutOfProfile 110 → Nested levels (IsBadBig byte) front → Why levels front byte e
  by_levels : e ≡ TooDeep → Begins (Spells (suc levels)) (front ++ byte ∷ []) → Why levels front byte e
  elsewhere : e ≡ Malformed → Why levels front byte e

-- so many items, of which some are whole, and one isn't
pub record WhyItems (below n : ℕ) (front : List ℕ) (byte : ℕ) (e : TermError) : Type 0 where
  pub before : Items
  pub elements : List ℕ
  pub inner : List ℕ
  pub spelled : SpellAll (Spells below) before elements
  pub left : count before < n
  pub parts : front ≡ elements ++ inner
  pub why : Why below inner byte e

pub Explains-items : (below n : ℕ) → (0 < n → Reads (Spells below) (read_term below) × Explains (Why below) (read_term below))
    → Explains (WhyItems below n) (items_with (read_term below) n)
unfolding items_with
Explains-items below zero r = record { why = λ front byte e h c k l. absurd cc }
Explains-items below (suc n) r =
    let both = r (omega arith) in
    Explains-then (Spells below) (λ t. Mapped (item t) (AreItems (Spells below) n)) (read_term below)
    (λ t bytes. map_read (item t) (items_with (read_term below) n bytes)) both.0
    (λ t text s. Reads-map (item t) (AreItems (Spells below) n) (items_with (read_term below) n)
    (Reads-items (Spells below) (read_term below) n (λ some. both.0)))
    (Why below) (λ t. WhyItems below n) (WhyItems below (suc n)) both.1
    (λ t text s. Explains-map (item t) (WhyItems below n) (items_with (read_term below) n) (Explains-items below n (λ some. both)))
    (λ front byte e w.
    record { before = no_items; elements = []; inner = front; spelled = refl; left = omega arith; parts = refl; why = w })
    (λ t text inner byte e s w. record {
      before = item t w.before;
      elements = text ++ w.elements;
      inner = w.inner;
      spelled = (text, w.elements, s, w.spelled, refl);
      left = (let k = w.left in omega arith);
      parts = ap (λ (v : List ℕ). text ++ v) w.parts ∙ sym (append_assoc text w.elements w.inner);
      why = w.why;
    })
