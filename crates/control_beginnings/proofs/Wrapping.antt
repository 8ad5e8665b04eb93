-- A term inside tuples of one element.
use Rattle.std.proofs.Common.{◌≡◌, ℕ, zero, suc, ◌+◌, ◌-◌, ◌≤◌, ◌<◌, Bool, true, false, eqb, List, [], ◌∷◌, ◌++◌, length, refl, sym, ap, subst, ◌∙◌, append_assoc, arith}
use Rattle.std.proofs.Common.{Ok, Err, inl, inr, IsTrue, rules, take}
use Rattle.std.proofs.lemmas.Bool.{true≢false}
use Rattle.std.proofs.lemmas.List.{append-nil, take-append-drop}
use Rattle.std.specs.Prelude.{pos, drop, ◌==◌}
use Rattle.readers.specs.Laws.{Takes}
use Rattle.erl_control.proofs.Sequence.{is_empty_nil}
use Rattle.readers.specs.Places.{Begins}
use Rattle.erl_term.specs.declared.error.TermError.{TermError}
use Rattle.erl_term.specs.declared.error.TermError.TheVariants.{Cut, Malformed, OutOfProfile, TooDeep, TooLong, OutOfMemory}
use Rattle.erl_term.specs.Data.{Data, int, atom, tuple, list, improper, binary, pid, reference, Items, no_items, item, count}
use Rattle.erl_term.specs.Spelling.{SpellAll, Spells, IsSpelling}
use Rattle.erl_term.specs.Reading.{read_term}
use Rattle.erl_term.specs.Faults.{HasFault}
use Rattle.erl_term.specs.Answer.{IsDue}
use Rattle.erl_term.proofs.Base.{ok_is}
use Rattle.erl_term.proofs.Bytes.{one_byte, byte_number}
use Rattle.erl_term.proofs.Table.{Reads-term}
use Rattle.control_beginnings.specs.Parts.{Starts, IsAnyTerm, IsAnySpelling, is_open, IsUnfinished}
use Rattle.control_beginnings.proofs.Splits.{Free, whole, whole_starts}

-- ---- no term begins another

pub Free-term : (levels : ℕ) → Free (IsAnyTerm levels)
Free-term zero a b x y s r e = absurd s.1
Free-term (suc n) a b x y (t, s) (u, r) e =
    let read = Reads-term (suc n) (omega arith) in
    let both : (t, x) ≡ (u, y) = ok_is _ _ (sym (read.again t a x s) ∙ ap (read_term (suc n)) e ∙ read.again u b y r) in
    ap (λ (z : Data × List ℕ). z.1) both

behind_version : (a b : ℕ) (x y : List ℕ) → a ∷ x ≡ b ∷ y → x ≡ y
behind_version a b x y e = cc

pub Free-spelling : Free IsAnySpelling
Free-spelling a b x y (t, s) (u, r) e =
    Free-term 64 s.term r.term x y (t, s.spelled) (u, r.spelled)
    (behind_version 131 131 (s.term ++ x) (r.term ++ y)
    (ap (λ (w : List ℕ). w ++ x) (sym s.bytes) ∙ e ∙ ap (λ (w : List ℕ). w ++ y) r.bytes))

-- ---- tags

pub tag_is : (k tag : ℕ) (w back : List ℕ) → k ∷ w ≡ tag ∷ back → k ≡ tag
tag_is k tag w back e = cc

-- a row has another tag
pub no_row : (k tag : ℕ) (w back : List ℕ) → eqb k tag ≡ false → k ∷ w ≡ tag ∷ back → ⊥
no_row k tag w back not e =
    let q : k ≡ tag = tag_is k tag w back e in
    let yes : eqb k tag ≡ true = rw q (eqb_same tag) in true≢false (sym yes ∙ not)
  where
    eqb_same : (n : ℕ) → eqb n n ≡ true
    eqb_same n = search (rules)

-- ---- one tuple more

-- so many heads of tuples of one element
abbrev pub tuples : ℕ → List ℕ
tuples zero = []
tuples (suc k) = 104 ∷ 1 ∷ tuples k

pub tuples-last : (k : ℕ) → tuples k ++ 104 ∷ 1 ∷ [] ≡ tuples (suc k)
tuples-last zero = refl
tuples-last (suc k) = ap (λ (w : List ℕ). 104 ∷ 1 ∷ w) (tuples-last k)

one_up : (levels : ℕ) (b : List ℕ) → IsAnyTerm levels b → IsAnyTerm (suc levels) (104 ∷ 1 ∷ b)
one_up levels b (t, s) = (
  tuple (item t no_items),
  inl (inl (record {
    arity = 1 ∷ [];
    elements = b;
    number = byte_number 1 (omega arith);
    spelled = (b, [], s, refl, sym (append-nil b));
    bytes = refl;
  })),
)

element : (levels n : ℕ) (ts : Items) (arity elements b : List ℕ) → n ≡ count ts → arity ≡ n ∷ [] → SpellAll (Spells levels) ts elements
    → 104 ∷ 1 ∷ b ≡ 104 ∷ (arity ++ elements) → IsAnyTerm levels b
element levels n no_items arity elements b c a s e =
    absurd (let q : 104 ∷ 1 ∷ b ≡ 104 ∷ n ∷ elements = e ∙ ap (λ (w : List ℕ). 104 ∷ (w ++ elements)) a in let k : 1 ≡ n = cc in omega arith)
element levels n (item t no_items) arity elements b c a s e =
    let q : 104 ∷ 1 ∷ b ≡ 104 ∷ n ∷ elements = e ∙ ap (λ (w : List ℕ). 104 ∷ (w ++ elements)) a in
    let k : b ≡ elements = cc in
    let whole : b ≡ s.0 = k ∙ s.4 ∙ ap (λ (w : List ℕ). s.0 ++ w) s.3 ∙ append-nil s.0 in
    (t, subst (Spells levels t) (sym whole) s.2)
element levels n (item t (item u ts)) arity elements b c a s e =
    absurd (let q : 104 ∷ 1 ∷ b ≡ 104 ∷ n ∷ elements = e ∙ ap (λ (w : List ℕ). 104 ∷ (w ++ elements)) a in let k : 1 ≡ n = cc in omega arith)

one_down : (levels : ℕ) (b : List ℕ) (u : Data) → Spells (suc levels) u (104 ∷ 1 ∷ b) → IsAnyTerm levels b
one_down levels b u (inr s) = absurd (no_row 104 108 _ _ refl s.bytes)
one_down levels b (tuple ts) (inl (inl s)) =
    element levels (count ts) ts s.arity s.elements b refl (one_byte (count ts) s.arity s.number) s.spelled s.bytes
one_down levels b (tuple ts) (inl (inr s)) = absurd (no_row 104 105 _ _ refl s.bytes)
one_down levels b (int z) (inl (inl s)) = absurd (no_row 104 97 _ _ refl s.bytes)
one_down levels b (int z) (inl (inr (inl s))) = absurd (no_row 104 98 _ _ refl s.bytes)
one_down levels b (int z) (inl (inr (inr s))) = absurd (no_row 104 110 _ _ refl s.bytes)
one_down levels b (atom a) (inl (inl s)) = absurd (no_row 104 119 _ _ refl s.bytes)
one_down levels b (atom a) (inl (inr (inl s))) = absurd (no_row 104 118 _ _ refl s.bytes)
one_down levels b (atom a) (inl (inr (inr (inl s)))) = absurd (no_row 104 115 _ _ refl s.bytes)
one_down levels b (atom a) (inl (inr (inr (inr s)))) = absurd (no_row 104 100 _ _ refl s.bytes)
one_down levels b (list ts) (inl (inl s)) = absurd (no_row 104 106 _ _ refl s.1)
one_down levels b (list ts) (inl (inr s)) = absurd (no_row 104 107 _ _ refl s.bytes)
one_down levels b (improper ts t) (inl s) = absurd s
one_down levels b (binary a) (inl s) = absurd (no_row 104 109 _ _ refl s.bytes)
one_down levels b (pid p) (inl s) = absurd (no_row 104 88 _ _ refl s.bytes)
one_down levels b (reference r) (inl s) = absurd (no_row 104 90 _ _ refl s.bytes)

pub wrap : (k levels : ℕ) (b : List ℕ) → IsAnyTerm levels b → IsAnyTerm (k + levels) (tuples k ++ b)
wrap zero levels b s = subst (λ (n : ℕ). IsAnyTerm n b) (let e : levels ≡ zero + levels = omega arith in e) s
wrap (suc k) levels b s =
    subst (λ (n : ℕ). IsAnyTerm n (104 ∷ 1 ∷ (tuples k ++ b))) (let e : suc (k + levels) ≡ suc k + levels = omega arith in e)
    (one_up (k + levels) (tuples k ++ b) (wrap k levels b s))

pub unwrap : (k levels : ℕ) (b : List ℕ) → IsAnyTerm (k + levels) (tuples k ++ b) → IsAnyTerm levels b
unwrap zero levels b s = subst (λ (n : ℕ). IsAnyTerm n b) (let e : zero + levels ≡ levels = omega arith in e) s
unwrap (suc k) levels b s =
    let t = subst (λ (n : ℕ). IsAnyTerm n (104 ∷ 1 ∷ (tuples k ++ b))) (let e : suc k + levels ≡ suc (k + levels) = omega arith in e) s in
    unwrap k levels b (one_down (k + levels) (tuples k ++ b) t.0 t.1)

-- the same of beginnings, behind the version byte
pub wrapped : (k levels : ℕ) (bytes : List ℕ) → k + levels ≡ 64 → Starts (IsAnyTerm levels) bytes
    → Starts IsAnySpelling (131 ∷ (tuples k ++ bytes))
wrapped k levels bytes e (more, s) =
    let w = subst (λ (n : ℕ). IsAnyTerm n (tuples k ++ (bytes ++ more))) e (wrap k levels (bytes ++ more) s) in (
      more,
      (
        w.0,
        record {
          term = tuples k ++ (bytes ++ more);
          spelled = w.1;
          bytes = ap (λ (v : List ℕ). 131 ∷ v) (append_assoc (tuples k) bytes more);
        },
      ),
    )

pub unwrapped : (k levels : ℕ) (bytes : List ℕ) → k + levels ≡ 64 → Starts IsAnySpelling (131 ∷ (tuples k ++ bytes))
    → Starts (IsAnyTerm levels) bytes
unwrapped k levels bytes e (more, (t, s)) =
    let same : tuples k ++ (bytes ++ more) ≡ s.term =
    sym (append_assoc (tuples k) bytes more) ∙ behind_version 131 131 ((tuples k ++ bytes) ++ more) s.term s.bytes in (
      more,
      unwrap k levels (bytes ++ more)
          (subst (λ (n : ℕ). IsAnyTerm n (tuples k ++ (bytes ++ more))) (sym e) (t, subst (Spells 64 t) (sym same) s.spelled)),
    )

-- ---- the answer of term_len

starts_of : (bytes : List ℕ) → Begins (IsSpelling 64) bytes → Starts IsAnySpelling bytes
starts_of bytes b = (b.more, (b.value, b.is_text))

no_start : (bytes : List ℕ) (kind : TermError) → HasFault bytes kind → Starts IsAnySpelling bytes → ⊥
no_start bytes kind f (more, (t, s)) =
    f.first.stops (record {
      value = t;
      more = f.first.rest ++ more;
      is_text = subst (IsSpelling 64 t)
          (ap (λ (w : List ℕ). w ++ more) f.first.parts ∙ append_assoc f.front (f.byte ∷ f.first.rest) more
          ∙ sym (append_assoc f.front (f.byte ∷ []) (f.first.rest ++ more))) s;
    })

pub unfinished : (bytes : List ℕ) (e : TermError) → IsDue bytes (Err e) → IsUnfinished bytes (is_open e)
unfinished bytes Cut d none = (λ t. starts_of bytes d.0.begins, λ s. refl)
unfinished bytes Malformed d none = (λ t. absurd (true≢false (sym t)), λ s. absurd (no_start bytes Malformed d s))
unfinished bytes (OutOfProfile tag) d none = (λ t. absurd (true≢false (sym t)), λ s. absurd (no_start bytes (OutOfProfile tag) d s))
unfinished bytes TooDeep d none = (λ t. absurd (true≢false (sym t)), λ s. absurd (no_start bytes TooDeep d s))
unfinished bytes TooLong (inl d) none = (λ t. starts_of bytes d.1.begins, λ s. refl)
unfinished bytes TooLong (inr d) none =
    absurd (none d.0 (take d.1 bytes) (drop d.1 bytes) d.3.is_text (sym (take-append-drop d.1 bytes)))
unfinished bytes OutOfMemory d none = absurd d

pub no_term_due : (bytes : List ℕ) (n : ℕ) → (t : Data) × IsDue bytes (Ok (t, n)) → IsUnfinished bytes false
no_term_due bytes n d none = absurd (none d.0 (take n bytes) (drop n bytes) d.1.0.is_text (sym (take-append-drop n bytes)))

-- ---- spellings

pub empty_starts : Starts IsAnySpelling []
empty_starts = (
  131 ∷ 97 ∷ 0 ∷ [],
  (
    int (pos 0),
    record {
      term = 97 ∷ 0 ∷ [];
      spelled = inl (inl (record { n = 0; field = 0 ∷ []; number = byte_number 0 (omega arith); value = refl; bytes = refl }));
      bytes = refl;
    },
  ),
)

pub nil_of : (xs : List ℕ) → length xs < 1 → xs ≡ []
nil_of [] lt = refl
nil_of (x ∷ xs) lt = absurd (omega arith)

pub empty_is : (xs : List ℕ) (b : Bool) → b ≡ (length xs == 0) → xs ≡ [] → b ≡ true
empty_is xs b e n = e ∙ ap (λ (w : List ℕ). length w == 0) n

-- a spelling at the front is all that begins a text
pub front_starts : (bytes term rest : List ℕ) (t : Data) (b : Bool) → bytes ≡ 131 ∷ term → Takes (λ u w. Spells 64 u w) term t rest
    → b ≡ (length rest == 0) → (IsTrue b → Starts IsAnySpelling bytes) × (Starts IsAnySpelling bytes → IsTrue b)
front_starts bytes term rest t b e k is =
    let s : IsAnySpelling (131 ∷ k.text) = (t, record { term = k.text; spelled = k.is_text; bytes = refl }) in
    let p : bytes ≡ (131 ∷ k.text) ++ rest = e ∙ ap (λ (w : List ℕ). 131 ∷ w) k.parts in (
      λ y. whole_starts IsAnySpelling bytes (131 ∷ k.text) rest s p (is_empty_nil rest b is y),
      λ y. empty_is rest b is (whole IsAnySpelling Free-spelling bytes (131 ∷ k.text) rest s p y),
    )

pub no_front : (bytes term : List ℕ) → bytes ≡ 131 ∷ term
    → ((t : Data) (text rest : List ℕ) → Spells 64 t text → term ≡ text ++ rest → ⊥)
    → (t : Data) (text rest : List ℕ) → IsSpelling 64 t text → bytes ≡ text ++ rest → ⊥
no_front bytes term e none t text rest s p =
    none t s.term rest s.spelled
    (behind_version 131 131 term (s.term ++ rest) (sym e ∙ p ∙ ap (λ (w : List ℕ). w ++ rest) s.bytes))

-- ---- the loop that wraps

pub one_more : (i levels : ℕ) (text : List ℕ) → levels ≤ i → text ≡ 131 ∷ tuples (i - levels)
    → text ++ 104 ∷ 1 ∷ [] ≡ 131 ∷ tuples (i + 1 - levels)
one_more i levels text le e =
    let n : suc (i - levels) ≡ i + 1 - levels = omega arith in
    ap (λ (w : List ℕ). w ++ 104 ∷ 1 ∷ []) e ∙ ap (λ (w : List ℕ). 131 ∷ w) (tuples-last (i - levels))
    ∙ ap (λ (k : ℕ). 131 ∷ tuples k) n

pub all_wrapped : (i levels : ℕ) (text bytes : List ℕ) (b : Bool) → levels ≤ 64 → i ≡ 64
    → text ≡ (131 ∷ tuples (i - levels)) ++ bytes
    → (IsTrue b → Starts IsAnySpelling text) × (Starts IsAnySpelling text → IsTrue b)
    → (IsTrue b → Starts (IsAnyTerm levels) bytes) × (Starts (IsAnyTerm levels) bytes → IsTrue b)
all_wrapped i levels text bytes b le z e h =
    let n : (i - levels) + levels ≡ 64 = omega arith in (
      λ y. unwrapped (i - levels) levels bytes n (subst (Starts IsAnySpelling) e (h.0 y)),
      λ y. h.1 (subst (Starts IsAnySpelling) (sym e) (wrapped (i - levels) levels bytes n y)),
    )
