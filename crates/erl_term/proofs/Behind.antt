-- Terms behind lists with no elements.
use Rattle.std.proofs.lemmas.Bool.{true≢false}
use Rattle.std.proofs.Common.{◌≡◌, ℕ, zero, suc, ◌+◌, true, false, eqb, List, [], ◌∷◌, ◌++◌, length, take}
use Rattle.std.proofs.Common.{drop, Option, Some, None, Bor, refl, sym, ap, subst, ◌∙◌, append_assoc, arith, inl, inr}
use Rattle.std.specs.Prelude.{IfSome, nat_eq}
use Rattle.std.specs.Str.{chars}
use Rattle.std.specs.Cmp.Lexicographic.{pointwise, same_text}
use Rattle.std.proofs.lemmas.List.{take-append-drop}
use Rattle.byteorder.specs.Endian.{big_number}
use Rattle.erl_term.specs.Data.{Data, int, atom, tuple, list, improper, binary, pid, reference, Items, no_items, item, count, joined}
use Rattle.erl_term.specs.Canonical.{is_list}
use Rattle.erl_term.specs.Spelling.{IsNumber, SpellAll, SpellsBy, Spells}
use Rattle.erl_term.specs.declared.parts.TupleHead.{TupleHead}
use Rattle.erl_term.specs.Parts.{lists, Behind, PassesOver, IsHead, IsTupleHead, Takes, ReadsFront}
use Rattle.erl_term.proofs.Canonical.{four_bytes}

-- no such list is at the front
abbrev pub Stands : List ℕ → Type 0
Stands x = (rest : List ℕ) → x ≡ lists 1 ++ rest → ⊥

cancel : (x y : List ℕ) → 108 ∷ 0 ∷ 0 ∷ 0 ∷ 0 ∷ x ≡ 108 ∷ 0 ∷ 0 ∷ 0 ∷ 0 ∷ y → x ≡ y
cancel x y e = cc

-- there is one way to pass over all of them
one_way : (k j : ℕ) (x y : List ℕ) → Stands x → Stands y → lists k ++ x ≡ lists j ++ y → (k ≡ j) × (x ≡ y)
one_way zero zero x y s t e = (refl, e)
one_way zero (suc j) x y s t e = absurd (s (lists j ++ y) e)
one_way (suc k) zero x y s t e = absurd (t (lists k ++ x) (sym e))
one_way (suc k) (suc j) x y s t e = let r = one_way k j x y s t (cancel (lists k ++ x) (lists j ++ y) e) in (ap suc r.0, r.1)

too_many : (k below : ℕ) (x rest : List ℕ) → Stands x → lists k ++ x ≡ lists (k + suc below) ++ rest → ⊥
too_many zero below x rest s e =
    let n : 0 + suc below ≡ suc below = omega arith in s (lists below ++ rest) (e ∙ ap (λ (m : ℕ). lists m ++ rest) n)
too_many (suc k) below x rest s e =
    let n : suc k + suc below ≡ suc (k + suc below) = omega arith in
    too_many k below x rest s (cancel (lists k ++ x) (lists (k + suc below) ++ rest) (e ∙ ap (λ (m : ℕ). lists m ++ rest) n))

-- ---- what is read behind them

module _ {A : Type 0} (S : A → ℕ → List ℕ → Type 0)
    (starts : (a : A) (below : ℕ) (text rest : List ℕ) → S a below text → Stands (text ++ rest)) where
  takes_behind : (levels below k : ℕ) (bytes inner : List ℕ) (answer : Option (A × Bor (List ℕ))) → levels ≡ k + suc below
      → bytes ≡ lists k ++ inner → IfSome answer (λ x. Takes (λ a b. S a below b) inner x.0 x.1.now)
      → IfSome answer (λ x. Takes (λ a b. Behind (S a) levels b) bytes x.0 x.1.now)
  takes_behind levels below k bytes inner None depth split t = tt
  takes_behind levels below k bytes inner (Some x) depth split t = record {
    text = lists k ++ t.text;
    is_text = record { k = k; below = below; text = t.text; is_text = t.is_text; depth = depth; bytes = refl };
    parts = split ∙ ap (λ (w : List ℕ). lists k ++ w) t.parts ∙ sym (append_assoc (lists k) t.text x.1.now);
  }

  pub reads_behind : (levels below k : ℕ) (bytes inner : List ℕ) (answer : Option (A × Bor (List ℕ))) → levels ≡ k + suc below
      → bytes ≡ lists k ++ inner → Stands inner → ReadsFront (λ a b. S a below b) inner answer
      → ReadsFront (λ a b. Behind (S a) levels b) bytes answer
  reads_behind levels below k bytes inner answer depth split stands r = record {
    takes = takes_behind levels below k bytes inner answer depth split r.takes;
    again = λ a text rest s p.
        let same : lists k ++ inner ≡ lists s.k ++ (s.text ++ rest) =
        sym split ∙ p ∙ ap (λ (w : List ℕ). w ++ rest) s.bytes ∙ append_assoc (lists s.k) s.text rest in
        let one = one_way k s.k inner (s.text ++ rest) stands (starts a s.below s.text rest s.is_text) same in
        let d = s.depth in
        let level : s.below ≡ below = omega (arith, one.0) in
        r.again a s.text rest (subst (λ (n : ℕ). S a n s.text) level s.is_text) one.1;
  }

  pub none_behind : (levels : ℕ) (bytes rest : List ℕ) → bytes ≡ lists levels ++ rest → ReadsFront (λ a b. Behind (S a) levels b) bytes None
  none_behind levels bytes rest split = record {
    takes = tt;
    again = λ a text more s p.
        let same : lists s.k ++ (s.text ++ more) ≡ lists (s.k + suc s.below) ++ rest =
        sym (p ∙ ap (λ (w : List ℕ). w ++ more) s.bytes ∙ append_assoc (lists s.k) s.text more) ∙ split
        ∙ ap (λ (n : ℕ). lists n ++ rest) s.depth in
        too_many s.k s.below (s.text ++ more) rest (starts a s.below s.text more s.is_text) same;
  }

takes_same : {A : Type 0} (S T : A → List ℕ → Type 0) (bytes : List ℕ) (answer : Option (A × Bor (List ℕ)))
    → ((a : A) (b : List ℕ) → S a b → T a b) → IfSome answer (λ x. Takes S bytes x.0 x.1.now)
    → IfSome answer (λ x. Takes T bytes x.0 x.1.now)
takes_same S T bytes None to t = tt
takes_same S T bytes (Some x) to t = record { text = t.text; is_text = to x.0 t.text t.is_text; parts = t.parts }

reads_same : {A : Type 0} (S T : A → List ℕ → Type 0) (bytes : List ℕ) (answer : Option (A × Bor (List ℕ)))
    → ((a : A) (b : List ℕ) → S a b → T a b) → ((a : A) (b : List ℕ) → T a b → S a b) → ReadsFront S bytes answer
    → ReadsFront T bytes answer
reads_same S T bytes answer to back r = record {
  takes = takes_same S T bytes answer to r.takes;
  again = λ a text rest s p. r.again a text rest (back a text s) p;
}

-- ---- a term that is no list

pub joined_none : (t : Data) → joined no_items t ≡ t
joined_none (list ts) = refl
joined_none t = refl

joined_some : (x : Data) (xs : Items) (t : Data) → is_list (joined (item x xs) t) ≡ true
joined_some x xs (list ts) = refl
joined_some x xs t = refl

no_items_by : (ts : Items) (last t : Data) → is_list t ≡ false → t ≡ joined ts last → ts ≡ no_items
no_items_by no_items last t e v = refl
no_items_by (item x xs) last t e v =
    absurd (let a = joined_some x xs last in let b : is_list (joined (item x xs) last) ≡ false = ap is_list (sym v) ∙ e in cc)

pub zero_is : (len : List ℕ) → IsNumber 4 0 len → len ≡ 0 ∷ 0 ∷ 0 ∷ 0 ∷ []
zero_is (a ∷ b ∷ c ∷ d ∷ []) s =
    let e : big_number 4 (a ∷ b ∷ c ∷ d ∷ []) ≡ 0 = s.says in
    let a0 : a ≡ 0 = omega arith in
    let b0 : b ≡ 0 = omega arith in
    let c0 : c ≡ 0 = omega arith in
    let d0 : d ≡ 0 = omega arith in
    rw (a0, b0, c0, d0) refl
zero_is len s = absurd (let l = s.len in omega arith)

-- a term by its own rows
abbrev pub Own : Data → ℕ → List ℕ → Type 0
Own t below b = SpellsBy (Spells below) t b

from_behind : (t : Data) (k below levels : ℕ) (text b : List ℕ) → Own t below text → levels ≡ k + suc below
    → b ≡ lists k ++ text → Spells levels t b
from_behind t zero below levels text b s d e = let n : levels ≡ suc below = omega arith in rw (n, e) (inl s)
from_behind t (suc k) below levels text b s d e =
    let n : levels ≡ suc (k + suc below) = omega arith in
    rw n (inr (record {
      items = no_items;
      last = t;
      len = 0 ∷ 0 ∷ 0 ∷ 0 ∷ [];
      elements = [];
      tail = lists k ++ text;
      number = four_bytes 0 (omega arith);
      spelled = refl;
      is_tail = from_behind t k below (k + suc below) text (lists k ++ text) s refl refl;
      value = sym (joined_none t);
      bytes = e;
    }))

pub behind_spelled : (t : Data) (levels : ℕ) (b : List ℕ) → Behind (Own t) levels b → Spells levels t b
behind_spelled t levels b s = from_behind t s.k s.below levels s.text b s.is_text s.depth s.bytes

one_behind : (t : Data) (levels : ℕ) (b tail : List ℕ) → b ≡ lists 1 ++ tail → Behind (Own t) levels tail → Behind (Own t) (suc levels) b
one_behind t levels b tail e s = record {
  k = suc s.k;
  below = s.below;
  text = s.text;
  is_text = s.is_text;
  depth = (let d = s.depth in omega arith);
  bytes = e ∙ ap (λ (w : List ℕ). lists 1 ++ w) s.bytes;
}

pub spelled_behind : (t : Data) (levels : ℕ) (b : List ℕ) → is_list t ≡ false → Spells levels t b → Behind (Own t) levels b
spelled_behind t zero b e s = absurd s
spelled_behind t (suc below) b e (inl s) = record { k = 0; below = below; text = b; is_text = s; depth = omega arith; bytes = refl }
spelled_behind t (suc below) b e (inr s) =
    let none = no_items_by s.items s.last t e s.value in
    let last : s.last ≡ t = sym (s.value ∙ ap (λ (ts : Items). joined ts s.last) none ∙ joined_none s.last) in
    let len : s.len ≡ 0 ∷ 0 ∷ 0 ∷ 0 ∷ [] = zero_is s.len (subst (λ (n : ℕ). IsNumber 4 n s.len) (ap count none) s.number) in
    let elements : s.elements ≡ [] = subst (λ (ts : Items). SpellAll (Spells below) ts s.elements) none s.spelled in
    one_behind t below b s.tail (s.bytes ∙ ap (λ (w : List ℕ). 108 ∷ (w ++ (s.elements ++ s.tail))) len
    ∙ ap (λ (w : List ℕ). 108 ∷ 0 ∷ 0 ∷ 0 ∷ 0 ∷ (w ++ s.tail)) elements)
    (spelled_behind t below s.tail e (subst (λ (u : Data). Spells below u s.tail) last s.is_tail))

-- ---- what stands at the front of such a term's own rows

pub head_same : (a b : ℕ) (x y : List ℕ) → a ∷ x ≡ b ∷ y → a ≡ b
head_same a b x y e = cc

other_tag : (tag : ℕ) (back text rest : List ℕ) → eqb tag 108 ≡ false → text ≡ tag ∷ back → Stands (text ++ rest)
other_tag tag back text rest not e more q =
    let z : tag ∷ (back ++ rest) ≡ lists 1 ++ more = ap (λ (w : List ℕ). w ++ rest) (sym e) ∙ q in
    let k : tag ≡ 108 = head_same tag 108 (back ++ rest) _ z in
    let y : eqb tag 108 ≡ true = rw k refl in
    absurd (true≢false (sym y ∙ not))

own_stands : (t : Data) (below : ℕ) (text rest : List ℕ) → is_list t ≡ false → Own t below text → Stands (text ++ rest)
own_stands (int z) below text rest e (inl s) = other_tag 97 s.field text rest refl s.bytes
own_stands (int z) below text rest e (inr (inl s)) = other_tag 98 s.field text rest refl s.bytes
own_stands (int z) below text rest e (inr (inr s)) =
    other_tag 110 (length s.magnitude ∷ s.sign ∷ s.magnitude) text rest refl s.bytes
own_stands (atom a) below text rest e (inl s) = other_tag 119 (s.len ++ a) text rest refl s.bytes
own_stands (atom a) below text rest e (inr (inl s)) = other_tag 118 (s.len ++ a) text rest refl s.bytes
own_stands (atom a) below text rest e (inr (inr (inl s))) = other_tag 115 (s.len ++ chars a) text rest refl s.bytes
own_stands (atom a) below text rest e (inr (inr (inr s))) = other_tag 100 (s.len ++ chars a) text rest refl s.bytes
own_stands (tuple ts) below text rest e (inl s) = other_tag 104 (s.arity ++ s.elements) text rest refl s.bytes
own_stands (tuple ts) below text rest e (inr s) = other_tag 105 (s.arity ++ s.elements) text rest refl s.bytes
own_stands (list ts) below text rest e s = absurd (true≢false e)
own_stands (improper ts t) below text rest e s = absurd s
own_stands (binary a) below text rest e s = other_tag 109 (s.len ++ a) text rest refl s.bytes
own_stands (pid p) below text rest e s = other_tag 88 (s.node ++ (s.id ++ (s.serial ++ s.creation))) text rest refl s.bytes
own_stands (reference r) below text rest e s = other_tag 90 (s.len ++ (s.node ++ (s.creation ++ s.words))) text rest refl s.bytes

head_stands : (x : TupleHead) (below : ℕ) (text rest : List ℕ) → (x.levels ≡ below) × IsHead x.arity text → Stands (text ++ rest)
head_stands x below text rest (s, inl h) = other_tag 104 h.arity text rest refl h.bytes
head_stands x below text rest (s, inr h) = other_tag 105 h.arity text rest refl h.bytes

abbrev Passed : ℕ → List ℕ → ℕ → List ℕ → Type 0
Passed levels bytes below inner =
    (k : ℕ) × (levels ≡ k + suc below) × (bytes ≡ lists k ++ inner) × ((rest : List ℕ) → inner ≡ lists 1 ++ rest → ⊥)

-- ---- terms of one kind, which has no lists: integers, pids, references

module _ {A : Type 0} (made : A → Data) (plain : (a : A) → is_list (made a) ≡ false) where
  abbrev OwnRows : A → ℕ → List ℕ → Type 0
  OwnRows a below b = Own (made a) below b

  starts : (a : A) (below : ℕ) (text rest : List ℕ) → OwnRows a below text → Stands (text ++ rest)
  starts a below text rest s = own_stands (made a) below text rest (plain a) s

  spelled : (levels : ℕ) (bytes : List ℕ) (answer : Option (A × Bor (List ℕ)))
      → ReadsFront (λ a b. Behind (OwnRows a) levels b) bytes answer → ReadsFront (λ a b. Spells levels (made a) b) bytes answer
  spelled levels bytes answer r =
      reads_same (λ a b. Behind (OwnRows a) levels b) (λ a b. Spells levels (made a) b) bytes answer
      (λ a b s. behind_spelled (made a) levels b s) (λ a b s. spelled_behind (made a) levels b (plain a) s) r

  pub term_behind : (levels below : ℕ) (bytes inner : List ℕ) (answer : Option (A × Bor (List ℕ))) → Passed levels bytes below inner
      → ReadsFront (λ a b. OwnRows a below b) inner answer → ReadsFront (λ a b. Spells levels (made a) b) bytes answer
  term_behind levels below bytes inner answer p r =
      spelled levels bytes answer (reads_behind OwnRows starts levels below p.0 bytes inner answer p.1 p.2 p.3 r)

  pub no_term : (levels : ℕ) (bytes rest : List ℕ) → bytes ≡ lists levels ++ rest
      → ReadsFront (λ a b. Spells levels (made a) b) bytes None
  no_term levels bytes rest e = spelled levels bytes None (none_behind OwnRows starts levels bytes rest e)

-- ---- the head of a tuple

abbrev AtHead : TupleHead → ℕ → List ℕ → Type 0
AtHead x below b = (x.levels ≡ below) × IsHead x.arity b

-- a head of so many elements, each of so many levels
abbrev pub head_of : ℕ → ℕ → TupleHead
head_of arity levels = record { arity = arity; levels = levels }

same_head : (x : TupleHead) (arity levels : ℕ) → arity ≡ x.arity → levels ≡ x.levels → head_of arity levels ≡ x
same_head x arity levels e f = ap (λ (n : ℕ). head_of n levels) e ∙ ap (head_of x.arity) f

headed : (below : ℕ) (inner : List ℕ) (n : ℕ) (rest : Bor (List ℕ)) → ReadsFront IsHead inner (Some (n, rest))
    → ReadsFront (λ x b. AtHead x below b) inner (Some (head_of n below, rest))
headed below inner n rest r = record {
  takes = record { text = r.takes.text; is_text = (refl, r.takes.is_text); parts = r.takes.parts };
  again = λ x text more s p. let k = r.again x.arity text more s.1 p in (same_head x n below k.0 (sym s.0), k.1);
}

unheaded : (below : ℕ) (inner : List ℕ) → ReadsFront IsHead inner None → ReadsFront (λ x b. AtHead x below b) inner None
unheaded below inner r = record { takes = tt; again = λ x text more s p. r.again x.arity text more s.1 p }

pub head_behind : (levels below : ℕ) (bytes inner : List ℕ) (n : ℕ) (rest : Bor (List ℕ)) → Passed levels bytes below inner
    → ReadsFront IsHead inner (Some (n, rest)) → ReadsFront (IsTupleHead levels) bytes (Some (head_of n below, rest))
head_behind levels below bytes inner n rest p r =
    reads_behind AtHead head_stands levels below p.0 bytes inner (Some (head_of n below, rest)) p.1 p.2 p.3 (headed below inner n rest r)

pub head_missing : (levels below : ℕ) (bytes inner : List ℕ) → Passed levels bytes below inner → ReadsFront IsHead inner None
    → ReadsFront (IsTupleHead levels) bytes None
head_missing levels below bytes inner p r =
    reads_behind AtHead head_stands levels below p.0 bytes inner None p.1 p.2 p.3 (unheaded below inner r)

pub no_head : (levels : ℕ) (bytes rest : List ℕ) → bytes ≡ lists levels ++ rest → ReadsFront (IsTupleHead levels) bytes None
no_head levels bytes rest e = none_behind AtHead head_stands levels bytes rest e

-- a tuple as its head and its elements
pub record TupleParts (levels : ℕ) (ts : Items) (b : List ℕ) : Type 0 where
  pub below : ℕ
  pub head : List ℕ
  pub elements : List ℕ
  pub is_head : IsTupleHead levels (head_of (count ts) below) head
  pub spelled : SpellAll (Spells below) ts elements
  pub parts : b ≡ head ++ elements

-- which every spelling of one is
pub tuple_opened : (levels : ℕ) (ts : Items) (b : List ℕ) → Spells levels (tuple ts) b → TupleParts levels ts b
tuple_opened levels ts b s = by (spelled_behind (tuple ts) levels b refl s)
  where
    made : (h : Behind (Own (tuple ts)) levels b) (head elements : List ℕ) → IsHead (count ts) head
        → SpellAll (Spells h.below) ts elements → h.text ≡ head ++ elements → TupleParts levels ts b
    made h head elements is all e = record {
      below = h.below;
      head = lists h.k ++ head;
      elements = elements;
      is_head = record { k = h.k; below = h.below; text = head; is_text = (refl, is); depth = h.depth; bytes = refl };
      spelled = all;
      parts = h.bytes ∙ ap (λ (w : List ℕ). lists h.k ++ w) e ∙ sym (append_assoc (lists h.k) head elements);
    }

    row : (h : Behind (Own (tuple ts)) levels b) → Own (tuple ts) h.below h.text → TupleParts levels ts b
    row h (inl t) = made h (104 ∷ t.arity) t.elements (inl (record { arity = t.arity; number = t.number; bytes = refl })) t.spelled t.bytes
    row h (inr t) = made h (105 ∷ t.arity) t.elements (inr (record { arity = t.arity; number = t.number; bytes = refl })) t.spelled t.bytes

    by : Behind (Own (tuple ts)) levels b → TupleParts levels ts b
    by h = row h h.is_text

pub tuple_closed : (levels : ℕ) (ts : Items) (b : List ℕ) → TupleParts levels ts b → Spells levels (tuple ts) b
tuple_closed levels ts b p =
    let h = p.is_head in
    let spelled = subst (λ (n : ℕ). SpellAll (Spells n) ts p.elements) h.is_text.0 p.spelled in
    behind_spelled (tuple ts) levels b (record {
      k = h.k;
      below = h.below;
      text = h.text ++ p.elements;
      is_text = row h.below h.text h.is_text.1 spelled;
      depth = h.depth;
      bytes = p.parts ∙ ap (λ (w : List ℕ). w ++ p.elements) h.bytes ∙ append_assoc (lists h.k) h.text p.elements;
    })
  where
    row : (below : ℕ) (head : List ℕ) → IsHead (count ts) head → SpellAll (Spells below) ts p.elements
        → Own (tuple ts) below (head ++ p.elements)
    row below head (inl g) all =
        inl (record
        { arity = g.arity; elements = p.elements; number = g.number; spelled = all; bytes = ap (λ (w : List ℕ). w ++ p.elements) g.bytes })
    row below head (inr g) all =
        inr (record
        { arity = g.arity; elements = p.elements; number = g.number; spelled = all; bytes = ap (λ (w : List ℕ). w ++ p.elements) g.bytes })

-- ---- passing over them

pub passes_none : (levels : ℕ) (bytes : List ℕ) → levels ≡ 0 → PassesOver levels bytes None
passes_none levels bytes e = (bytes, rw e refl)

pub passes_more : (levels below : ℕ) (bytes tail : List ℕ) (answer : Option (ℕ × Bor (List ℕ))) → levels ≡ suc below
    → pointwise nat_eq (take 5 bytes) (lists 1) ≡ true → tail ≡ drop 5 bytes → PassesOver below tail answer
    → PassesOver levels bytes answer
passes_more levels below bytes tail answer e front rest p = by answer p
  where
    split : bytes ≡ lists 1 ++ tail
    split = sym (take-append-drop 5 bytes)
        ∙ ap (λ (w : List ℕ). w ++ drop 5 bytes) (same_text (take 5 bytes) (lists 1) (sym front))
        ∙ ap (λ (w : List ℕ). lists 1 ++ w) (sym rest)

    by : (a : Option (ℕ × Bor (List ℕ))) → PassesOver below tail a → PassesOver levels bytes a
    by None p = (p.0, rw e (split ∙ ap (λ (w : List ℕ). lists 1 ++ w) p.1))
    by (Some x) p = (suc p.0, (let d = p.1 in omega arith), split ∙ ap (λ (w : List ℕ). lists 1 ++ w) p.2, p.3)
