-- The parts of a row, one after the other.
use Rattle.std.proofs.Common.{◌≡◌, ℕ, zero, suc, ◌+◌, ◌≤◌, ◌<◌, Bool, List, [], ◌∷◌, ◌++◌, length, drop, get_or, refl, sym, ap, subst, ◌∙◌, arith}
use Rattle.std.proofs.Common.{Option, Some, None, Bor, inl, IsTrue}
use Rattle.std.proofs.lemmas.List.{append-nil}
use Rattle.std.specs.Prelude.{pos, ◌==◌}
use Rattle.erl_control.proofs.Sequence.{is_empty_nil}
use Rattle.erl_term.specs.Data.{int}
use Rattle.erl_term.specs.Spelling.{Spells}
use Rattle.erl_term.proofs.Bytes.{byte_number}
use Rattle.control_beginnings.specs.declared.parts.Part.{Part}
use Rattle.control_beginnings.specs.declared.parts.Part.TheVariants.{Id, Of, Term, Message}
use Rattle.control_beginnings.specs.Parts.{Starts, Skips, Both, IsAnyTerm, IsAnySpelling, IsTagAt, IsPart, AreParts}
use Rattle.control_beginnings.proofs.Splits.{Free, open_to, open_from, behind_to, behind_from}
use Rattle.control_beginnings.proofs.Passing.{Tells}
use Rattle.control_beginnings.proofs.Wrapping.{Free-term, Free-spelling, empty_starts, empty_is}
use Rattle.control_beginnings.proofs.Kindred.{own_level, some_own}

-- ---- the version byte

tail_is : (a : ℕ) (x y : List ℕ) → a ∷ x ≡ a ∷ y → x ≡ y
tail_is a x y e = cc

pub skips_version : (bytes term : List ℕ) (o : Option (Bor (List ℕ))) → bytes ≡ 131 ∷ term → Skips (IsAnyTerm 64) term o
    → Skips IsAnySpelling bytes o
skips_version bytes term None e none = λ text rest s p.
    none s.1.term rest (s.0, s.1.spelled)
    (tail_is 131 term (s.1.term ++ rest) (sym e ∙ p ∙ ap (λ (w : List ℕ). w ++ rest) s.1.bytes))
skips_version bytes term (Some x) e s = (
  131 ∷ s.0,
  (s.1.0, record { term = s.0; spelled = s.1.1; bytes = refl }),
  e ∙ ap (λ (w : List ℕ). 131 ∷ w) s.2,
)

-- ---- each part

pub Free-tag : (levels tag : ℕ) → Free (IsTagAt levels tag)
Free-tag levels tag a b x y s r e = Free-term levels a b x y (int (pos tag), s) (int (pos tag), r) e

pub Free-part : (levels : ℕ) (part : Part) → Free (IsPart levels part)
Free-part levels Id a b x y (i, u, s) (j, v, r) e = Free-term levels a b x y (int (pos i), s) (int (pos j), r) e
Free-part levels (Of kind) a b x y (t, f, s) (u, g, r) e = Free-term levels a b x y (t, s) (u, r) e
Free-part levels Term a b x y s r e = Free-term levels a b x y s r e
Free-part levels Message a b x y s r e = Free-spelling a b x y s r e

small : (levels n : ℕ) → n < 256 → Spells (suc levels) (int (pos n)) (97 ∷ n ∷ [])
small levels n lt = inl (inl (record { n = n; field = n ∷ []; number = byte_number n lt; value = refl; bytes = refl }))

pub some_tag : (levels tag : ℕ) → tag < 256 → (b : List ℕ) × IsTagAt (suc levels) tag b
some_tag levels tag lt = (97 ∷ tag ∷ [], small levels tag lt)

pub some_part : (levels : ℕ) (part : Part) → (b : List ℕ) × IsPart (suc levels) part b
some_part levels Id = (97 ∷ 1 ∷ [], (1, (omega arith, omega arith), small levels 1 (omega arith)))
some_part levels (Of kind) =
    let o = some_own kind in (o.0, (o.1.0, o.1.1, inl (own_level kind o.1.0 0 levels o.0 o.1.1 o.1.2)))
some_part levels Term = (97 ∷ 0 ∷ [], (int (pos 0), small levels 0 (omega arith)))
some_part levels Message = (empty_starts.0, empty_starts.1)

pub some_parts : (levels : ℕ) (parts : List Part) → (b : List ℕ) × AreParts (suc levels) parts b
some_parts levels [] = ([], refl)
some_parts levels (part ∷ parts) =
    let p = some_part levels part in
    let r = some_parts levels parts in
    (p.0 ++ r.0, (p.0, r.0, p.1, r.1, refl))

at_least : (levels : ℕ) → 1 ≤ levels → (l : ℕ) × (levels ≡ suc l)
at_least zero le = absurd (omega arith)
at_least (suc l) le = (l, refl)

pub parts_at : (levels : ℕ) (parts : List Part) → 1 ≤ levels → (b : List ℕ) × AreParts levels parts b
parts_at levels parts le =
    let l = at_least levels le in subst (λ (n : ℕ). (b : List ℕ) × AreParts n parts b) (sym l.1) (some_parts l.0 parts)

-- ---- beginnings

abbrev pub Iff : Type 0 → Type 0 → Type 0
Iff A B = (A → B) × (B → A)

pub tells_iff : (S T : List ℕ → Type 0) (b : Bool) (x y : List ℕ) → Iff (Starts S x) (Starts T y) → Tells b S x → Tells b T y
tells_iff S T b x y i h = (λ t. i.0 (h.0 t), λ s. h.1 (i.1 s))

-- where the first of two is at the front, and where it is not
pub both_behind : (S T : List ℕ → Type 0) (bytes : List ℕ) (rest : Bor (List ℕ)) → Free S → Skips S bytes (Some rest)
    → Iff (Starts T rest.now) (Starts (Both S T) bytes)
both_behind S T bytes rest free s =
    (behind_to S T bytes rest.now s.0 s.1 s.2, behind_from S T bytes free rest.now s.0 s.1 s.2)

pub both_open : (S T : List ℕ → Type 0) (bytes : List ℕ) → ((b : List ℕ) × T b) → Skips S bytes None
    → Iff (Starts S bytes) (Starts (Both S T) bytes)
both_open S T bytes some none = (open_to S T bytes some, open_from S T bytes none)

pub nothing_left : (rest : List ℕ) → Iff (rest ≡ []) (Starts (λ b. b ≡ []) rest)
nothing_left rest = (λ e. ([], append-nil rest ∙ e), λ s. none rest s.0 s.1)
  where
    none : (xs ys : List ℕ) → xs ++ ys ≡ [] → xs ≡ []
    none [] ys e = refl
    none (x ∷ xs) ys e = absurd cc

-- ---- the loop over the parts

pub iff_then : (A B C : Type 0) → Iff A B → Iff B C → Iff A C
iff_then A B C p q = (λ x. q.0 (p.0 x), λ y. p.1 (q.1 y))

dropped : (parts : List Part) (i : ℕ) → i < length parts → drop i parts ≡ get_or parts i Id ∷ drop (i + 1) parts
dropped [] i lt = absurd (omega arith)
dropped (part ∷ parts) zero lt = refl
dropped (part ∷ parts) (suc i) lt =
    let n : suc i + 1 ≡ suc (i + 1) = omega arith in
    dropped parts i (omega arith) ∙ ap (λ (k : ℕ). get_or parts i Id ∷ drop k (part ∷ parts)) (sym n)

all_dropped : (parts : List Part) (i : ℕ) → length parts ≤ i → drop i parts ≡ []
all_dropped [] zero le = refl
all_dropped [] (suc i) le = refl
all_dropped (part ∷ parts) zero le = absurd (omega arith)
all_dropped (part ∷ parts) (suc i) le = all_dropped parts i (omega arith)

module _ (levels : ℕ) (parts : List Part) (i : ℕ) (rest : List ℕ) where
  pub part_none : 1 ≤ levels → i < length parts → Skips (IsPart levels (get_or parts i Id)) rest None
      → Iff (Starts (IsPart levels (get_or parts i Id)) rest) (Starts (AreParts levels (drop i parts)) rest)
  part_none some lt none =
      let part = get_or parts i Id in
      subst (λ (ps : List Part). Iff (Starts (IsPart levels part) rest) (Starts (AreParts levels ps) rest)) (sym (dropped parts i lt))
      (both_open (IsPart levels part) (AreParts levels (drop (i + 1) parts)) rest (parts_at levels (drop (i + 1) parts) some) none)

  pub part_some : (after : Bor (List ℕ)) → i < length parts → Skips (IsPart levels (get_or parts i Id)) rest (Some after)
      → Iff (Starts (AreParts levels (drop (i + 1) parts)) after.now) (Starts (AreParts levels (drop i parts)) rest)
  part_some after lt s =
      let part = get_or parts i Id in
      subst (λ (ps : List Part). Iff (Starts (AreParts levels (drop (i + 1) parts)) after.now) (Starts (AreParts levels ps) rest))
      (sym (dropped parts i lt))
      (both_behind (IsPart levels part) (AreParts levels (drop (i + 1) parts)) rest after (Free-part levels part) s)

  pub parts_done : (b : Bool) → length parts ≤ i → b ≡ (length rest == 0)
      → (IsTrue b → Starts (AreParts levels (drop i parts)) rest) × (Starts (AreParts levels (drop i parts)) rest → IsTrue b)
  parts_done b le is =
      subst (λ (ps : List Part). (IsTrue b → Starts (AreParts levels ps) rest) × (Starts (AreParts levels ps) rest → IsTrue b))
      (sym (all_dropped parts i le)) (
        λ t. (nothing_left rest).0 (is_empty_nil rest b is t),
        λ s. empty_is rest b is ((nothing_left rest).1 s),
      )
