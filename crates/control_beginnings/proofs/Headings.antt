-- The head of a row, its tag and its parts.
use Rattle.std.proofs.Common.{◌≡◌, ◌≢◌, ℕ, zero, suc, ◌≤◌, ◌<◌, List, [], ◌∷◌, ◌++◌, refl, sym, ap, subst, ◌∙◌, append_assoc, arith}
use Rattle.std.proofs.Common.{None, inl, inr}
use Rattle.readers.specs.Laws.{Takes}
use Rattle.erl_term.specs.declared.parts.TupleHead.{TupleHead}
use Rattle.erl_term.specs.Parts.{lists, IsHead, IsTupleHead, ReadsFront}
use Rattle.erl_term.proofs.Base.{ok_is}
use Rattle.erl_term.proofs.Bytes.{byte_number}
use Rattle.erl_term.proofs.PartReaders.{head_again}
use Rattle.erl_term.proofs.Behind.{head_of}
use Rattle.control_beginnings.specs.declared.parts.Part.{Part}
use Rattle.control_beginnings.specs.Parts.{Starts, IsTagAt, AreElements, IsHeadOf, IsRowText}
use Rattle.control_beginnings.proofs.Splits.{split}
use Rattle.control_beginnings.proofs.Passing.{IsOther, one_way}
use Rattle.control_beginnings.proofs.Sequences.{Iff, some_tag, some_parts}

pub head_other : (arity : ℕ) (b : List ℕ) → IsHead arity b → IsOther b
head_other arity b (inl s) = (104, s.arity, (λ e. omega arith), s.bytes)
head_other arity b (inr s) = (105, s.arity, (λ e. omega arith), s.bytes)

pub head_some : (arity : ℕ) → arity < 256 → (b : List ℕ) × IsHead arity b
head_some arity lt = (104 ∷ arity ∷ [], inl (record { arity = arity ∷ []; number = byte_number arity lt; bytes = refl }))

-- ---- one head

-- the same bytes begin with one head
record Same (x y : TupleHead) (r s : List ℕ) : Type 0 where
  levels : x.levels ≡ y.levels
  arity : x.arity ≡ y.arity
  rest : r ≡ s

own_same : (m n : ℕ) (a b r s : List ℕ) → IsHead m a → IsHead n b → a ++ r ≡ b ++ s → (m ≡ n) × (r ≡ s)
own_same m n a b r s h k e =
    let both : (m, r) ≡ (n, s) = ok_is _ _ (sym (head_again (a ++ r) m a r h refl) ∙ head_again (a ++ r) n b s k e) in
    (ap (λ (z : ℕ × List ℕ). z.0) both, ap (λ (z : ℕ × List ℕ). z.1) both)

one_head : (x y : TupleHead) (a b r s : List ℕ) → IsTupleHead 64 x a → IsTupleHead 64 y b → a ++ r ≡ b ++ s → Same x y r s
one_head x y a b r s h k e =
    let o = head_other x.arity h.text h.is_text.1 in
    let p = head_other y.arity k.text k.is_text.1 in
    let left : a ++ r ≡ lists h.k ++ (h.text ++ r) = ap (λ (w : List ℕ). w ++ r) h.bytes ∙ append_assoc (lists h.k) h.text r in
    let right : b ++ s ≡ lists k.k ++ (k.text ++ s) = ap (λ (w : List ℕ). w ++ s) k.bytes ∙ append_assoc (lists k.k) k.text s in
    let deep : lists h.k ++ (h.text ++ r) ≡ lists k.k ++ (k.text ++ s) = sym left ∙ e ∙ right in
    let one = one_way h.k k.k o.0 p.0 (o.1 ++ r) (p.1 ++ s) o.2 p.2
    (sym (ap (λ (w : List ℕ). lists h.k ++ (w ++ r)) o.3) ∙ deep ∙ ap (λ (w : List ℕ). lists k.k ++ (w ++ s)) p.3) in
    let inner : h.text ++ r ≡ k.text ++ s =
    ap (λ (w : List ℕ). w ++ r) o.3 ∙ one.1 ∙ sym (ap (λ (w : List ℕ). w ++ s) p.3) in
    let own = own_same x.arity y.arity h.text k.text r s h.is_text.1 k.is_text.1 inner in
    let d = h.depth in
    let f = k.depth in
    let same = one.0 in
    let level : h.below ≡ k.below = omega arith in
    record { levels = h.is_text.0 ∙ level ∙ sym k.is_text.0; arity = own.0; rest = own.1 }

-- ---- where no head is at the front

-- an element has a level
tag_level : (levels tag : ℕ) (b : List ℕ) → IsTagAt levels tag b → (l : ℕ) × (levels ≡ suc l)
tag_level zero tag b s = absurd s
tag_level (suc l) tag b s = (l, refl)

lower : (x : TupleHead) (arity l : ℕ) (b : List ℕ) → x.arity ≡ arity → x.levels ≡ suc l → IsTupleHead 64 x b → IsHeadOf arity b
lower x arity l b e f h =
    let d = h.depth in
    let n = h.is_text.0 in
    record {
      k = h.k;
      below = l;
      text = h.text;
      is_text = subst (λ (m : ℕ). IsHead m h.text) e h.is_text.1;
      depth = omega arith;
      bytes = h.bytes;
    }

raise : (arity : ℕ) (b : List ℕ) (h : IsHeadOf arity b) → IsTupleHead 64 (head_of arity (suc h.below)) b
raise arity b h =
    let d = h.depth in
    record { k = h.k; below = suc h.below; text = h.text; is_text = (refl, h.is_text); depth = omega arith; bytes = h.bytes }

pub row_open : (arity tag : ℕ) (parts : List Part) (bytes : List ℕ) → tag < 256 → ReadsFront (IsTupleHead 64) bytes None
    → Iff (Starts (IsHeadOf arity) bytes) (Starts (IsRowText arity tag parts) bytes)
row_open arity tag parts bytes lt none = (to, from)
  where
    to : Starts (IsHeadOf arity) bytes → Starts (IsRowText arity tag parts) bytes
    to (more, h) =
        let t = some_tag h.below tag lt in
        let p = some_parts h.below parts in (
          more ++ (t.0 ++ p.0),
          record {
            head = head_of arity (suc h.below);
            front = bytes ++ more;
            elements = t.0 ++ p.0;
            is_arity = refl;
            is_head = raise arity (bytes ++ more) h;
            are_elements = (t.0, p.0, t.1, p.1, refl);
            bytes = sym (append_assoc bytes more (t.0 ++ p.0));
          },
        )

    from : Starts (IsRowText arity tag parts) bytes → Starts (IsHeadOf arity) bytes
    from (more, r) =
        let l = tag_level r.head.levels tag r.are_elements.0 r.are_elements.2 in
        elim (split bytes more r.front r.elements r.bytes) as (λ _. Starts (IsHeadOf arity) bytes) [
          | inl x ↦ absurd (none.again r.head r.front x.0 r.is_head x.1)
          | inr t ↦ (t.0, subst (IsHeadOf arity) (sym t.1) (lower r.head arity l.0 r.front r.is_arity l.1 r.is_head))
        ]

-- ---- where one is

module _ (arity tag : ℕ) (parts : List Part) (bytes rest : List ℕ) (x : TupleHead) (t : Takes (IsTupleHead 64) bytes x rest) where
  same_head : (more : List ℕ) (r : IsRowText arity tag parts (bytes ++ more)) → Same x r.head (rest ++ more) r.elements
  same_head more r =
      one_head x r.head t.text r.front (rest ++ more) r.elements t.is_text r.is_head
      (sym (append_assoc t.text rest more) ∙ ap (λ (w : List ℕ). w ++ more) (sym t.parts) ∙ r.bytes)

  pub row_flat : x.levels ≡ 0 → Starts (IsRowText arity tag parts) bytes → ⊥
  row_flat e (more, r) =
      let s = same_head more r in
      let l = tag_level r.head.levels tag r.are_elements.0 r.are_elements.2 in
      let f = s.levels in
      let g = l.1 in
      omega arith

  pub row_other : x.arity ≢ arity → Starts (IsRowText arity tag parts) bytes → ⊥
  row_other n (more, r) = n ((same_head more r).arity ∙ r.is_arity)

  pub row_behind : x.arity ≡ arity
      → Iff (Starts (AreElements x.levels tag parts) rest) (Starts (IsRowText arity tag parts) bytes)
  row_behind e = (to, from)
    where
      to : Starts (AreElements x.levels tag parts) rest → Starts (IsRowText arity tag parts) bytes
      to (more, s) = (
        more,
        record {
          head = x;
          front = t.text;
          elements = rest ++ more;
          is_arity = e;
          is_head = t.is_text;
          are_elements = s;
          bytes = ap (λ (w : List ℕ). w ++ more) t.parts ∙ append_assoc t.text rest more;
        },
      )

      from : Starts (IsRowText arity tag parts) bytes → Starts (AreElements x.levels tag parts) rest
      from (more, r) =
          let s = same_head more r in
          let moved : AreElements x.levels tag parts r.elements =
          subst (λ (n : ℕ). AreElements n tag parts r.elements) (sym s.levels) r.are_elements in
          (more, subst (AreElements x.levels tag parts) (sym s.rest) moved)

  -- the levels of a tuple in a term
  pub levels_within : x.levels ≤ 64
  levels_within = let d = t.is_text.depth in let l = t.is_text.is_text.0 in omega arith
