-- Texts behind lists with no elements.
use Rattle.std.proofs.Common.{◌≡◌, ◌≢◌, ℕ, zero, suc, ◌-◌, ◌≤◌, List, [], ◌∷◌, ◌++◌, refl, sym, ap, subst, ◌∙◌, append_assoc, arith}
use Rattle.std.proofs.Common.{Bor, Bool, true, false, IsTrue, inl, inr}
use Rattle.std.proofs.lemmas.Bool.{true≢false}
use Rattle.erl_term.specs.Parts.{lists, Behind}
use Rattle.control_beginnings.specs.declared.fronts.Front.{Front}
use Rattle.control_beginnings.specs.declared.fronts.Front.TheVariants as front
use Rattle.control_beginnings.specs.Parts.{Starts, IsFront}
use Rattle.control_beginnings.proofs.Splits.{split}

heads : (a b : ℕ) (x y : List ℕ) → a ∷ x ≡ b ∷ y → a ≡ b
heads a b x y e = cc

cancel : (x y : List ℕ) → 108 ∷ 0 ∷ 0 ∷ 0 ∷ 0 ∷ x ≡ 108 ∷ 0 ∷ 0 ∷ 0 ∷ 0 ∷ y → x ≡ y
cancel x y e = cc

-- there is one way to pass over all of them
pub one_way : (k j c d : ℕ) (x y : List ℕ) → c ≢ 108 → d ≢ 108 → lists k ++ c ∷ x ≡ lists j ++ d ∷ y → (k ≡ j) × (c ∷ x ≡ d ∷ y)
one_way zero zero c d x y s t e = (refl, e)
one_way zero (suc j) c d x y s t e = absurd (s (heads c 108 x _ e))
one_way (suc k) zero c d x y s t e = absurd (t (sym (heads 108 d _ y e)))
one_way (suc k) (suc j) c d x y s t e =
    let r = one_way k j c d x y s t (cancel (lists k ++ c ∷ x) (lists j ++ d ∷ y) e) in (ap suc r.0, r.1)

-- ---- how they are passed over

pub front_none : (levels : ℕ) (bytes : List ℕ) → levels ≡ 0 → IsFront levels bytes front.Refused
front_none levels bytes z k c more rest le n e = omega arith

pub front_more : (levels below : ℕ) (bytes tail : List ℕ) (f : Front) → levels ≡ suc below → bytes ≡ lists 1 ++ tail
    → IsFront below tail f → IsFront levels bytes f
front_more levels below bytes tail front.Inside d e (k, more, le, p) =
    (suc k, more, omega arith, ap (λ (w : List ℕ). w ++ more) e ∙ ap (λ (w : List ℕ). lists 1 ++ w) p)
front_more levels below bytes tail (front.Behind text) d e (k, le, p, stands) =
    (suc k, omega arith, e ∙ ap (λ (w : List ℕ). lists 1 ++ w) p, stands)
front_more levels below bytes tail front.Refused d e h = by
  where
    by : (k c : ℕ) (more rest : List ℕ) → suc k ≤ levels → c ≢ 108 → bytes ++ more ≡ lists k ++ c ∷ rest → ⊥
    by zero c more rest le n q =
        n (sym (heads 108 c _ rest (ap (λ (w : List ℕ). w ++ more) (sym e) ∙ q)))
    by (suc k) c more rest le n q =
        h k c more rest (omega arith) n
        (cancel (tail ++ more) (lists k ++ c ∷ rest) (ap (λ (w : List ℕ). w ++ more) (sym e) ∙ q))

pub front_inside : (levels below : ℕ) (bytes : List ℕ) → levels ≡ suc below → 1 ≤ below → Starts (λ b. b ≡ lists 1) bytes
    → IsFront levels bytes front.Inside
front_inside levels below bytes d le s = (1, s.0, omega arith, s.1)

pub front_refused : (levels below : ℕ) (bytes back : List ℕ) → levels ≡ suc below → bytes ≡ 108 ∷ back
    → (1 ≤ below → Starts (λ b. b ≡ lists 1) bytes → ⊥) → ((rest : List ℕ) → bytes ≡ lists 1 ++ rest → ⊥)
    → IsFront levels bytes front.Refused
front_refused levels below bytes back d e never none = by
  where
    by : (k c : ℕ) (more rest : List ℕ) → suc k ≤ levels → c ≢ 108 → bytes ++ more ≡ lists k ++ c ∷ rest → ⊥
    by zero c more rest le n q = n (sym (heads 108 c (back ++ more) rest (ap (λ (w : List ℕ). w ++ more) (sym e) ∙ q)))
    by (suc k) c more rest le n q =
        elim (split bytes more (lists 1) (lists k ++ c ∷ rest) q) as (λ _. ⊥) [
          | inl r ↦ none r.0 r.1
          | inr t ↦ never (omega arith) (t.0, t.1)
        ]

-- ---- texts behind them

-- a text begins with another byte
abbrev pub IsOther : List ℕ → Type 0
IsOther b = (c : ℕ) × (rest : List ℕ) × (c ≢ 108) × (b ≡ c ∷ rest)

abbrev pub Deep : (List ℕ → Type 0) → ℕ → List ℕ → Type 0
Deep S levels b = Behind (λ below text. S text) levels b

module _ (S : List ℕ → Type 0) (other : (b : List ℕ) → S b → IsOther b) (some : (b : List ℕ) × S b) (levels : ℕ) (bytes : List ℕ) where
  pub inside_starts : IsFront levels bytes front.Inside → Starts (Deep S levels) bytes
  inside_starts (k, more, le, e) = (
    more ++ some.0,
    record {
      k = k;
      below = levels - suc k;
      text = some.0;
      is_text = some.1;
      depth = omega arith;
      bytes = sym (append_assoc bytes more some.0) ∙ ap (λ (w : List ℕ). w ++ some.0) e;
    },
  )

  pub behind_starts : (text : Bor (List ℕ)) → IsFront levels bytes (front.Behind text) → Starts S text.now → Starts (Deep S levels) bytes
  behind_starts text (k, le, e, stands) (more, s) = (
    more,
    record {
      k = k;
      below = levels - suc k;
      text = text.now ++ more;
      is_text = s;
      depth = omega arith;
      bytes = ap (λ (w : List ℕ). w ++ more) e ∙ append_assoc (lists k) text.now more;
    },
  )

  pub behind_started : (text : Bor (List ℕ)) → IsFront levels bytes (front.Behind text) → Starts (Deep S levels) bytes → Starts S text.now
  behind_started text (k, le, e, stands) (more, h) =
      by text.now stands (sym (append_assoc (lists k) text.now more) ∙ ap (λ (w : List ℕ). w ++ more) (sym e) ∙ h.bytes)
    where
      by : (inner : List ℕ) → ((rest : List ℕ) → inner ≡ 108 ∷ rest → ⊥) → lists k ++ (inner ++ more) ≡ lists h.k ++ h.text → Starts S inner
      by [] never q = some
      by (d ∷ inner) never q =
          let o = other h.text h.is_text in
          let not : d ≢ 108 = λ z. never inner (ap (λ (n : ℕ). n ∷ inner) z) in
          let one = one_way k h.k d o.0 (inner ++ more) o.1 not o.2 (q ∙ ap (λ (w : List ℕ). lists h.k ++ w) o.3) in
          (more, subst S (o.3 ∙ sym one.1) h.is_text)

  pub refused_starts : IsFront levels bytes front.Refused → Starts (Deep S levels) bytes → ⊥
  refused_starts never (more, h) =
      let o = other h.text h.is_text in
      let d = h.depth in
      never h.k o.0 more o.1 (omega arith) o.2 (h.bytes ∙ ap (λ (w : List ℕ). lists h.k ++ w) o.3)

-- ---- the answers, for texts that are seen otherwise

abbrev pub Tells : Bool → (List ℕ → Type 0) → List ℕ → Type 0
Tells b S bytes = (IsTrue b → Starts S bytes) × (Starts S bytes → IsTrue b)

pub tells_same : (S T : List ℕ → Type 0) (b : Bool) (bytes : List ℕ) → ((x : List ℕ) → S x → T x) → ((x : List ℕ) → T x → S x)
    → Tells b S bytes → Tells b T bytes
tells_same S T b bytes to from h =
    (λ y. let s = h.0 y in (s.0, to (bytes ++ s.0) s.1), λ s. h.1 (s.0, from (bytes ++ s.0) s.1))

pub tells_true : (S : List ℕ → Type 0) (bytes : List ℕ) → Starts S bytes → Tells true S bytes
tells_true S bytes s = (λ y. s, λ y. refl)

-- it is not so that the answer is true
pub not_told : (S : List ℕ → Type 0) (b : Bool) (bytes : List ℕ) → Tells b S bytes → b ≡ false → Starts S bytes → ⊥
not_told S b bytes h e s = true≢false (sym (h.1 s) ∙ e)

pub tells_none : (S : List ℕ → Type 0) (bytes : List ℕ) → (Starts S bytes → ⊥) → Tells false S bytes
tells_none S bytes none = (λ y. absurd (true≢false (sym y)), λ s. absurd (none s))

module _ (S T : List ℕ → Type 0) (other : (b : List ℕ) → S b → IsOther b) (some : (b : List ℕ) × S b) (levels : ℕ) (bytes : List ℕ)
    (to : (b : List ℕ) → Deep S levels b → T b) (from : (b : List ℕ) → T b → Deep S levels b) where
  pub tells_inside : IsFront levels bytes front.Inside → Tells true T bytes
  tells_inside f =
      tells_same (Deep S levels) T true bytes to from (λ y. inside_starts S other some levels bytes f, λ s. refl)

  pub tells_behind : (text : Bor (List ℕ)) (b : Bool) → IsFront levels bytes (front.Behind text) → Tells b S text.now → Tells b T bytes
  tells_behind text b f h =
      tells_same (Deep S levels) T b bytes to from (
        λ y. behind_starts S other some levels bytes text f (h.0 y),
        λ s. h.1 (behind_started S other some levels bytes text f s),
      )

  pub tells_refused : IsFront levels bytes front.Refused → Tells false T bytes
  tells_refused f =
      tells_same (Deep S levels) T false bytes to from
      (tells_none (Deep S levels) bytes (refused_starts S other some levels bytes f))
