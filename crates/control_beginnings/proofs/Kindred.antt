-- Terms of a kind: by the tags of their own rows, and behind lists with no elements.
use Rattle.std.proofs.Common.{◌≡◌, ◌≢◌, ℕ, zero, suc, Bool, true, false, List, [], ◌∷◌, ◌++◌, get_or, rules, refl, sym, ap, subst, ◌∙◌, arith}
use Rattle.std.proofs.Common.{inl, inr, IsTrue}
use Rattle.std.proofs.lemmas.Bool.{true≢false}
use Rattle.std.proofs.lemmas.List.{get_or_past}
use Rattle.std.specs.Str.{chars}
use Rattle.erl_term.specs.Numbers.{AreBytes}
use Rattle.erl_term.specs.declared.term.Pid.{Pid as ThePid}
use Rattle.erl_term.specs.declared.term.Reference.{Reference as TheReference}
use Rattle.erl_term.specs.Data.{Data, int, atom, tuple, list, improper, binary, pid, reference}
use Rattle.erl_term.specs.Canonical.{is_list}
use Rattle.erl_term.specs.Text.{IsAtomText}
use Rattle.erl_term.specs.Spelling.{IsNumber, SpellsAtom, IsPid, IsReference, SpellsBy, Spells}
use Rattle.erl_term.proofs.Behind.{spelled_behind, behind_spelled}
use Rattle.erl_term.proofs.Bytes.{byte_number}
use Rattle.erl_term.proofs.Canonical.{four_bytes}
use Rattle.control_beginnings.specs.declared.parts.Kind.{Kind}
use Rattle.control_beginnings.specs.declared.parts.Kind.TheVariants.{Pid, Name, Target, Reference}
use Rattle.control_beginnings.specs.Parts.{Starts, IsAnyTerm, IsKindAt, IsOwnOf, is_of, has_tag}
use Rattle.control_beginnings.proofs.Passing.{IsOther, Deep}
use Rattle.control_beginnings.proofs.Wrapping.{tag_is}

-- ---- at any level

pub own_level : (kind : Kind) (t : Data) (m n : ℕ) (b : List ℕ) → is_of kind t ≡ true → SpellsBy (Spells m) t b → SpellsBy (Spells n) t b
own_level kind (pid p) m n b f s = s
own_level kind (atom a) m n b f s = s
own_level kind (reference r) m n b f s = s
own_level kind (int z) m n b f s = s
own_level kind (tuple ts) m n b f s = absurd cc
own_level kind (list ts) m n b f s = s
own_level kind (improper ts t) m n b f s = s
own_level kind (binary a) m n b f s = s

plain : (kind : Kind) (t : Data) → is_of kind t ≡ true → is_list t ≡ false
plain kind (pid p) f = refl
plain kind (atom a) f = refl
plain kind (reference r) f = refl
plain kind t f = absurd cc

pub kind_deep : (kind : Kind) (levels : ℕ) (b : List ℕ) → IsKindAt levels kind b → Deep (IsOwnOf kind) levels b
kind_deep kind levels b (t, f, s) =
    let h = spelled_behind t levels b (plain kind t f) s in
    record { k = h.k; below = h.below; text = h.text; is_text = (t, f, own_level kind t h.below 0 h.text f h.is_text); depth = h.depth; bytes = h.bytes }

pub deep_kind : (kind : Kind) (levels : ℕ) (b : List ℕ) → Deep (IsOwnOf kind) levels b → IsKindAt levels kind b
deep_kind kind levels b h =
    let o = h.is_text in (
      o.0,
      o.1,
      behind_spelled o.0 levels b (record {
        k = h.k;
        below = h.below;
        text = h.text;
        is_text = own_level kind o.0 0 h.below h.text o.1 o.2;
        depth = h.depth;
        bytes = h.bytes;
      }),
    )

-- ---- tags

-- a row of the kind, by its tag
record Row (kind : Kind) (b : List ℕ) : Type 0 where
  tag : ℕ
  back : List ℕ
  not_list : tag ≢ 108
  has : has_tag kind tag ≡ true
  bytes : b ≡ tag ∷ back

atom_row : (kind : Kind) (a b : List ℕ) → is_of kind (atom a) ≡ true → SpellsAtom a b → Row kind b
atom_row kind a b f (inl s) = record { tag = 119; back = s.len ++ a; not_list = λ e. omega arith; has = f; bytes = s.bytes }
atom_row kind a b f (inr (inl s)) = record { tag = 118; back = s.len ++ a; not_list = λ e. omega arith; has = f; bytes = s.bytes }
atom_row kind a b f (inr (inr (inl s))) =
    record { tag = 115; back = s.len ++ chars a; not_list = λ e. omega arith; has = f; bytes = s.bytes }
atom_row kind a b f (inr (inr (inr s))) =
    record { tag = 100; back = s.len ++ chars a; not_list = λ e. omega arith; has = f; bytes = s.bytes }

own_row : (kind : Kind) (t : Data) (b : List ℕ) → is_of kind t ≡ true → SpellsBy (Spells 0) t b → Row kind b
own_row kind (pid p) b f s = record {
  tag = 88;
  back = s.node ++ (s.id ++ (s.serial ++ s.creation));
  not_list = λ e. omega arith;
  has = f;
  bytes = s.bytes;
}
own_row kind (atom a) b f s = atom_row kind a b f s
own_row kind (reference r) b f s = record {
  tag = 90;
  back = s.len ++ (s.node ++ (s.creation ++ s.words));
  not_list = λ e. omega arith;
  has = f;
  bytes = s.bytes;
}
own_row kind t b f s = absurd cc

pub kind_other : (kind : Kind) (b : List ℕ) → IsOwnOf kind b → IsOther b
kind_other kind b (t, f, s) = let r = own_row kind t b f s in (r.tag, r.back, r.not_list, r.bytes)

pub own_tag : (kind : Kind) (k : ℕ) (w : List ℕ) → IsOwnOf kind (k ∷ w) → has_tag kind k ≡ true
own_tag kind k w (t, f, s) =
    let r = own_row kind t (k ∷ w) f s in
    ap (has_tag kind) (tag_is k r.tag w r.back r.bytes) ∙ r.has

-- the byte is the tag of a row, so the kind has this tag
told : (kind : Kind) (k tag : ℕ) (w back : List ℕ) (v : Bool) → has_tag kind tag ≡ v → has_tag kind k ≡ true → k ∷ w ≡ tag ∷ back → v ≡ true
told kind k tag w back v e h p = sym e ∙ ap (has_tag kind) (sym (tag_is k tag w back p)) ∙ h

none : (kind : Kind) (k tag : ℕ) (w back : List ℕ) → has_tag kind tag ≡ false → has_tag kind k ≡ true → k ∷ w ≡ tag ∷ back → ⊥
none kind k tag w back e h p = true≢false (sym (told kind k tag w back false e h p))

pub tag_own : (kind : Kind) (levels k : ℕ) (w : List ℕ) (t : Data) → has_tag kind k ≡ true → Spells (suc levels) t (k ∷ w) → IsOwnOf kind (k ∷ w)
tag_own kind levels k w t h (inr s) = absurd (none kind k 108 w _ refl h s.bytes)
tag_own kind levels k w (pid p) h (inl s) = (pid p, told kind k 88 w _ (is_of kind (pid p)) refl h s.bytes, s)
tag_own kind levels k w (reference r) h (inl s) = (reference r, told kind k 90 w _ (is_of kind (reference r)) refl h s.bytes, s)
tag_own kind levels k w (atom a) h (inl (inl s)) = (atom a, told kind k 119 w _ (is_of kind (atom a)) refl h s.bytes, inl s)
tag_own kind levels k w (atom a) h (inl (inr (inl s))) = (atom a, told kind k 118 w _ (is_of kind (atom a)) refl h s.bytes, inr (inl s))
tag_own kind levels k w (atom a) h (inl (inr (inr (inl s)))) =
    (atom a, told kind k 115 w _ (is_of kind (atom a)) refl h s.bytes, inr (inr (inl s)))
tag_own kind levels k w (atom a) h (inl (inr (inr (inr s)))) =
    (atom a, told kind k 100 w _ (is_of kind (atom a)) refl h s.bytes, inr (inr (inr s)))
tag_own kind levels k w (int z) h (inl (inl s)) = absurd (none kind k 97 w _ refl h s.bytes)
tag_own kind levels k w (int z) h (inl (inr (inl s))) = absurd (none kind k 98 w _ refl h s.bytes)
tag_own kind levels k w (int z) h (inl (inr (inr s))) = absurd (none kind k 110 w _ refl h s.bytes)
tag_own kind levels k w (tuple ts) h (inl (inl s)) = absurd (none kind k 104 w _ refl h s.bytes)
tag_own kind levels k w (tuple ts) h (inl (inr s)) = absurd (none kind k 105 w _ refl h s.bytes)
tag_own kind levels k w (list ts) h (inl (inl s)) = absurd (none kind k 106 w _ refl h s.1)
tag_own kind levels k w (list ts) h (inl (inr s)) = absurd (none kind k 107 w _ refl h s.bytes)
tag_own kind levels k w (improper ts t) h (inl s) = absurd s
tag_own kind levels k w (binary a) h (inl s) = absurd (none kind k 109 w _ refl h s.bytes)

-- ---- a term of each kind

empty_text : IsAtomText []
unfolding chars
empty_text = search rules

pub empty_atom : SpellsAtom [] (119 ∷ 0 ∷ [])
empty_atom = inl (record { len = 0 ∷ []; is_text = empty_text; number = byte_number 0 (omega arith); bytes = refl })

two_bytes : IsNumber 2 1 (0 ∷ 1 ∷ [])
two_bytes = record { len = refl; bytes = fits; says = omega arith }
  where
    fits : AreBytes (0 ∷ 1 ∷ [])
    fits zero = omega arith
    fits (suc zero) = omega arith
    fits (suc (suc i)) = let e : get_or {A = ℕ} [] i 0 ≡ 0 = get_or_past [] i 0 (omega arith) in omega arith

abbrev some_pid : ThePid
some_pid = record { node = []; creation = 0; id = 0; serial = 0 }

pub pid_text : (b : List ℕ) × IsPid some_pid b
pid_text = (
  88 ∷ 119 ∷ 0 ∷ 0 ∷ 0 ∷ 0 ∷ 0 ∷ 0 ∷ 0 ∷ 0 ∷ 0 ∷ 0 ∷ 0 ∷ 0 ∷ 0 ∷ [],
  record {
    node = 119 ∷ 0 ∷ [];
    id = 0 ∷ 0 ∷ 0 ∷ 0 ∷ [];
    serial = 0 ∷ 0 ∷ 0 ∷ 0 ∷ [];
    creation = 0 ∷ 0 ∷ 0 ∷ 0 ∷ [];
    is_node = empty_atom;
    is_id = four_bytes 0 (omega arith);
    is_serial = four_bytes 0 (omega arith);
    is_creation = four_bytes 0 (omega arith);
    bytes = refl;
  },
)

abbrev some_reference : TheReference
some_reference = record { node = []; creation = 0; words = 0 ∷ [] }

pub reference_text : (b : List ℕ) × IsReference some_reference b
reference_text = (
  90 ∷ 0 ∷ 1 ∷ 119 ∷ 0 ∷ 0 ∷ 0 ∷ 0 ∷ 0 ∷ 0 ∷ 0 ∷ 0 ∷ 0 ∷ [],
  record {
    len = 0 ∷ 1 ∷ [];
    node = 119 ∷ 0 ∷ [];
    creation = 0 ∷ 0 ∷ 0 ∷ 0 ∷ [];
    words = 0 ∷ 0 ∷ 0 ∷ 0 ∷ [];
    some = omega arith;
    few = omega arith;
    number = two_bytes;
    is_node = empty_atom;
    is_creation = four_bytes 0 (omega arith);
    are_words = (0 ∷ 0 ∷ 0 ∷ 0 ∷ [], [], four_bytes 0 (omega arith), refl, refl);
    bytes = refl;
  },
)

pub some_own : (kind : Kind) → (b : List ℕ) × IsOwnOf kind b
some_own Pid = (pid_text.0, (pid some_pid, refl, pid_text.1))
some_own Name = (119 ∷ 0 ∷ [], (atom [], refl, empty_atom))
some_own Target = (119 ∷ 0 ∷ [], (atom [], refl, empty_atom))
some_own Reference = (reference_text.0, (reference some_reference, refl, reference_text.1))

-- ---- a term at the front

pub own_starts : (kind : Kind) (bytes w : List ℕ) (k : ℕ) (b : Bool) → bytes ≡ k ∷ w → has_tag kind k ≡ true
    → (IsTrue b → Starts (IsAnyTerm 64) bytes) × (Starts (IsAnyTerm 64) bytes → IsTrue b)
    → (IsTrue b → Starts (IsOwnOf kind) bytes) × (Starts (IsOwnOf kind) bytes → IsTrue b)
own_starts kind bytes w k b e has h = (
  λ y. let s = h.0 y in (
    s.0,
    subst (IsOwnOf kind) (sym (split s.0))
        (tag_own kind 63 k (w ++ s.0) s.1.0 has (subst (Spells 64 s.1.0) (split s.0) s.1.1)),
  ),
  λ s. h.1 (s.0, (s.1.0, inl (own_level kind s.1.0 0 63 (bytes ++ s.0) s.1.1 s.1.2))),
)
  where
    split : (more : List ℕ) → bytes ++ more ≡ k ∷ (w ++ more)
    split more = ap (λ (v : List ℕ). v ++ more) e

pub other_tag : (kind : Kind) (bytes w : List ℕ) (k : ℕ) → bytes ≡ k ∷ w → has_tag kind k ≡ false → Starts (IsOwnOf kind) bytes → ⊥
other_tag kind bytes w k e has s =
    true≢false (sym (own_tag kind k (w ++ s.0) (subst (IsOwnOf kind) (ap (λ (v : List ℕ). v ++ s.0) e) s.1)) ∙ has)

pub some_starts : (kind : Kind) (bytes : List ℕ) → bytes ≡ [] → Starts (IsOwnOf kind) bytes
some_starts kind bytes e = subst (Starts (IsOwnOf kind)) (sym e) (some_own kind)

-- ---- a term of one kind

pub as_pid : (t : Data) → is_of Pid t ≡ true → (p : ThePid) × (t ≡ pid p)
as_pid (pid p) e = (p, refl)
as_pid t e = absurd cc

pub as_name : (t : Data) → is_of Name t ≡ true → (a : List ℕ) × (t ≡ atom a)
as_name (atom a) e = (a, refl)
as_name t e = absurd cc

pub as_reference : (t : Data) → is_of Reference t ≡ true → (r : TheReference) × (t ≡ reference r)
as_reference (reference r) e = (r, refl)
as_reference t e = absurd cc

module _ (levels : ℕ) (kind : Kind) (b : List ℕ) where
  pub pid_at : kind ≡ Pid → IsKindAt levels kind b → (p : ThePid) × Spells levels (pid p) b
  pid_at e (t, f, s) =
      let p = as_pid t (ap (λ (k : Kind). is_of k t) (sym e) ∙ f) in (p.0, subst (λ (u : Data). Spells levels u b) p.1 s)

  pub name_at : kind ≡ Name → IsKindAt levels kind b → (a : List ℕ) × Spells levels (atom a) b
  name_at e (t, f, s) =
      let p = as_name t (ap (λ (k : Kind). is_of k t) (sym e) ∙ f) in (p.0, subst (λ (u : Data). Spells levels u b) p.1 s)

  pub reference_at : kind ≡ Reference → IsKindAt levels kind b → (r : TheReference) × Spells levels (reference r) b
  reference_at e (t, f, s) =
      let p = as_reference t (ap (λ (k : Kind). is_of k t) (sym e) ∙ f) in (p.0, subst (λ (u : Data). Spells levels u b) p.1 s)
