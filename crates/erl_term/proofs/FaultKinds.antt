-- The kinds of the first fault exclude each other.
use Rattle.std.proofs.Common.{◌≡◌, ◌≢◌, ℕ, zero, suc, ◌+◌, ◌-◌, ◌^◌, ◌<◌, ◌≤◌, Bool, true, false, cond, ltb, List, [], ◌∷◌, ◌++◌}
use Rattle.std.proofs.Common.{length, take, Result, Ok, Err, refl, sym, ap, subst, ◌∙◌, append_assoc, arith, ◌⊎◌, inl, inr}
use Rattle.std.specs.Prelude.{◌==◌}
use Rattle.std.proofs.lemmas.List.{append-nil, length-append, take_all}
use Rattle.std.proofs.lemmas.Bool.{cases_lt, ltb-false, le-ltb, lt-ltb}
use Rattle.byteorder.specs.Endian.{big_number}
use Rattle.erl_term.specs.declared.error.TermError.{TermError}
use Rattle.erl_term.specs.declared.error.TermError.TheVariants.{Cut, Malformed, OutOfProfile, TooDeep}
use Rattle.erl_term.specs.Numbers.{AreBytes, low_first}
use Rattle.erl_term.specs.Data.{Data, tuple, Items, no_items, item, count, joined}
use Rattle.erl_term.specs.Spelling.{IsNumber, SpellAll, Spells}
use Rattle.erl_term.specs.Faults.{is_tag, Nested, IsBadBig, IsTooDeep, IsOutOfProfile, IsKind, AtPlace}
use Rattle.erl_term.specs.Reading.{Read, ◌>>=◌, read_number, read_bounded, read_big, items_with, arities}
use Rattle.erl_term.specs.Reading.{tuple_with, list_with, row_with, read_term, read_spelling}
use Rattle.erl_term.proofs.Readers.{and_then, err_of_bind, ok_of_bind}
use Rattle.erl_term.proofs.Base.{Reads-any, Reads-number}
use Rattle.erl_term.proofs.Rows.{Reads-items, magnitude_at, Weighs, weighs, weighs_cut, weighs_large, weighs_in}
use Rattle.erl_term.proofs.Bytes.{byte_number, number_1, number_4}
use Rattle.erl_term.proofs.Tags.{suc_not}
use Rattle.erl_term.proofs.TableRows.{tail_after, cells_at, list_same}
use Rattle.erl_term.proofs.Table.{unknown_row, Reads-term, Reads-spelling}
use Rattle.erl_term.proofs.Why.{one_more}
use Rattle.erl_term.proofs.WhyRows.{Kind, out_of_profile, too_deep, is_malformed}

-- ---- more levels change an answer only where it was TooDeep

data Deeper {A : Type 0} (r s : Result A TermError) : Type 0 where
  deep : r ≡ Err TooDeep → Deeper r s
  same : s ≡ r → Deeper r s

bind_same : {A B : Type 0} (r : Result A TermError) (f g : A → Result B TermError) → ((x : A) → Deeper (f x) (g x))
    → Deeper (r >>= f) (r >>= g)
bind_same (Ok x) f g h = h x
bind_same (Err e) f g h = same refl

bind : {A B : Type 0} (r s : Result A TermError) (f g : A → Result B TermError) → Deeper r s → ((x : A) → Deeper (f x) (g x))
    → Deeper (r >>= f) (s >>= g)
bind r s f g (deep e) h = deep (rw e refl)
bind r s f g (same e) h = rw e (bind_same r f g h)

choose : {A : Type 0} (b : Bool) (x y u v : Result A TermError) → Deeper x u → Deeper y v → Deeper (cond b x y) (cond b u v)
choose true x y u v h k = h
choose false x y u v h k = k

arity_at : (below n : ℕ) (r : Read ℕ) (b : Bool) → ltb (arities below) n ≡ b
    → Deeper (cond (ltb (arities below) n) (Err TooDeep) r) (cond (ltb (arities (suc below)) n) (Err TooDeep) r)
arity_at below n r true e = deep (rw e refl)
arity_at zero n r false e =
    let none = ltb-false 0 n e in
    let low : ltb (2 ^ 32 - 1) n ≡ false = le-ltb (2 ^ 32 - 1) n (omega arith) in
    same (rw (e, low) refl)
arity_at (suc below) n r false e =
    let one : arities (suc below) ≡ 2 ^ 32 - 1 = rw (suc_not below) refl in
    let two : arities (suc (suc below)) ≡ 2 ^ 32 - 1 = rw (suc_not (suc below)) refl in
    same (rw (one, two) refl)

items : (one two : List ℕ → Read Data) → ((bytes : List ℕ) → Deeper (one bytes) (two bytes)) → (n : ℕ) (bytes : List ℕ)
    → Deeper (items_with one n bytes) (items_with two n bytes)
unfolding items_with
items one two h zero bytes = same refl
items one two h (suc n) bytes =
    bind (one bytes) (two bytes) _ _ (h bytes)
    (λ t. bind (items_with one n t.1) (items_with two n t.1) _ _ (items one two h n t.1) (λ ts. same refl))

tuples : (below : ℕ) (one two : List ℕ → Read Data) → ((bytes : List ℕ) → Deeper (one bytes) (two bytes))
    → (width : ℕ) (bytes : List ℕ) → Deeper (tuple_with below one width bytes) (tuple_with (suc below) two width bytes)
unfolding tuple_with
tuples below one two h width bytes =
    bind (read_bounded TooDeep (arities below) width bytes) (read_bounded TooDeep (arities (suc below)) width bytes) _ _
    (arity_at below (big_number width bytes) (read_number width bytes) _ refl)
    (λ n. bind (items_with one n.0 n.1) (items_with two n.0 n.1) _ _ (items one two h n.0 n.1) (λ ts. same refl))

lists : (below : ℕ) (one two : List ℕ → Read Data) → ((bytes : List ℕ) → Deeper (one bytes) (two bytes)) → (bytes : List ℕ)
    → Deeper (list_with below one bytes) (list_with (suc below) two bytes)
unfolding list_with
lists zero one two h bytes = deep refl
lists (suc below) one two h bytes =
    subst (λ (r : Read Data). Deeper r (list_with (suc (suc below)) two bytes)) (sym (list_same (suc below) one bytes (omega arith)))
    (subst (Deeper (cells_at one bytes)) (sym (list_same (suc (suc below)) two bytes (omega arith)))
    (bind (read_number 4 bytes) (read_number 4 bytes) _ _ (same refl) (λ n. bind (items_with one n.0 n.1) (items_with two n.0 n.1) _ _
    (items one two h n.0 n.1) (λ ts. bind (one ts.1) (two ts.1) _ _ (h ts.1) (λ t. same refl)))))

rows : (below : ℕ) (one two : List ℕ → Read Data) → ((bytes : List ℕ) → Deeper (one bytes) (two bytes))
    → (tag : ℕ) (bytes : List ℕ) → Deeper (row_with below one tag bytes) (row_with (suc below) two tag bytes)
unfolding row_with
rows below one two h tag bytes =
    choose (tag == 97) _ _ _ _ (same refl) (choose (tag == 98) _ _ _ _ (same refl)
    (choose (tag == 110) _ _ _ _ (same refl) (choose (tag == 118) _ _ _ _ (same refl) (choose (tag == 119) _ _ _ _ (same refl)
    (choose (tag == 104) _ _ _ _ (tuples below one two h 1 bytes)
    (choose (tag == 105) _ _ _ _ (tuples below one two h 4 bytes) (choose (tag == 88) _ _ _ _ (same refl)
    (choose (tag == 115) _ _ _ _ (same refl)
    (choose (tag == 100) _ _ _ _ (same refl) (choose (tag == 106) _ _ _ _ (same refl) (choose (tag == 107) _ _ _ _ (same refl)
    (choose (tag == 108) _ _ _ _ (lists below one two h bytes) (same refl)))))))))))))

deeper : (levels : ℕ) (bytes : List ℕ) → Deeper (read_term levels bytes) (read_term (suc levels) bytes)
unfolding read_term
deeper zero bytes = deep refl
deeper (suc below) bytes =
    bind (read_number 1 bytes) (read_number 1 bytes) _ _ (same refl)
    (λ t. rows below (read_term below) (read_term (suc below)) (deeper below) t.0 t.1)

-- any other error stays
other_stays : (n levels : ℕ) (bytes : List ℕ) (e : TermError) → levels ≤ n → e ≢ TooDeep → read_term levels bytes ≡ Err e
    → read_term n bytes ≡ Err e
other_stays zero levels bytes e le not h = subst (λ (l : ℕ). read_term l bytes ≡ Err e) (let z : levels ≡ 0 = omega arith in z) h
other_stays (suc n) levels bytes e le not h =
    elim (cases_lt levels (suc n)) as (λ _. read_term (suc n) bytes ≡ Err e) [
      | inl lt ↦
          let before = other_stays n levels bytes e (omega arith) not h in
          elim (deeper n bytes) as (λ _. read_term (suc n) bytes ≡ Err e) [
            | deep q ↦ absurd (not (let z : Err e ≡ Err TooDeep = sym before ∙ q in cc))
            | same q ↦ q ∙ before
          ]
      | inr ge ↦ subst (λ (l : ℕ). read_term l bytes ≡ Err e) (let z : levels ≡ suc n = omega arith in z) h
    ]

pub more_levels : (n levels : ℕ) (t : Data) (b : List ℕ) → levels ≤ n → Spells levels t b → Spells n t b
more_levels zero levels t b le s = subst (λ (l : ℕ). Spells l t b) (let z : levels ≡ 0 = omega arith in z) s
more_levels (suc n) levels t b le s =
    elim (cases_lt levels (suc n)) as (λ _. Spells (suc n) t b) [
      | inl lt ↦ one_more n t b (more_levels n levels t b (omega arith) s)
      | inr ge ↦ subst (λ (l : ℕ). Spells l t b) (let z : levels ≡ suc n = omega arith in z) s
    ]

-- ---- the byte at the front

tag_read : (below k : ℕ) (rest : List ℕ) → k < 256 → read_term (suc below) (k ∷ rest) ≡ row_with below (read_term below) k rest
unfolding read_term
tag_read below k rest lt =
    ok_of_bind (read_number 1 (k ∷ rest)) (λ tag. row_with below (read_term below) tag.0 tag.1) (k, rest)
    ((Reads-any 1).again k (k ∷ []) rest (byte_number k lt))

pub version_read : (rest : List ℕ) → read_spelling (131 ∷ rest) ≡ read_term 64 rest
unfolding read_spelling
version_read rest =
    ok_of_bind (read_number 1 (131 ∷ rest)) (λ version. cond (version.0 == 131) (read_term 64 version.1) (Err Malformed)) (131, rest)
    ((Reads-any 1).again 131 (131 ∷ []) rest (byte_number 131 (omega arith)))

-- ---- only the levels

deep_or : (e : TermError) → (e ≡ TooDeep) ⊎ (e ≢ TooDeep)
deep_or TooDeep = inl refl
deep_or e = inr (λ q. cc)

never : {A : Type 0} (e : TermError) (x : A) (r : Result A TermError) → r ≡ Err e → r ≡ Ok x → ⊥
never e x (Err f) h k = absurd cc
never e x (Ok y) h k = absurd cc

pub deep_read : (front : List ℕ) (byte : ℕ) (e : TermError) → AreBytes (front ++ byte ∷ []) → e ≢ Cut
    → read_spelling (front ++ byte ∷ []) ≡ Err e → IsTooDeep front byte → e ≡ TooDeep
deep_read front byte e h c k d =
    elim (deep_or e) as (λ _. e ≡ TooDeep) [
      | inl q ↦ q
      | inr not ↦
          let s = d.1.is_text in
          let bad : read_spelling (131 ∷ s.term) ≡ Err e =
          ap read_spelling (sym s.bytes) ∙ Reads-spelling.stable (front ++ byte ∷ []) d.1.more e h c k in
          let inner : read_term 64 s.term ≡ Err e = sym (version_read s.term) ∙ bad in
          let high : read_term (64 + d.0) s.term ≡ Err e = other_stays (64 + d.0) 64 s.term e (omega arith) not inner in
          let good : read_term (64 + d.0) (s.term ++ []) ≡ Ok (d.1.value, []) =
          (Reads-term (64 + d.0) (omega arith)).again d.1.value s.term []
          (more_levels (64 + d.0) d.0 d.1.value s.term (omega arith) s.spelled) in
          absurd (never e (d.1.value, []) (read_term (64 + d.0) s.term) high (ap (read_term (64 + d.0)) (sym (append-nil s.term)) ∙ good))
    ]

-- ---- a fault within open tuples is the fault of the whole

some_nested : (below : ℕ) (At : List ℕ → Type 0) (inner : List ℕ) → Nested below At inner → 0 < below
some_nested zero At inner n = absurd n
some_nested (suc below) At inner n = omega arith

items_err : (below n : ℕ) (before : Items) (elements last : List ℕ) (e : TermError) → 0 < below
    → SpellAll (Spells below) before elements → count before < n → read_term below last ≡ Err e
    → items_with (read_term below) n (elements ++ last) ≡ Err e
unfolding items_with
items_err below zero before elements last e some s lt h = absurd (omega arith)
items_err below (suc n) no_items elements last e some s lt h =
    err_of_bind (read_term below (elements ++ last))
    (λ t. items_with (read_term below) n t.1 >>= λ ts. Ok (item t.0 ts.0, ts.1)) e
    (ap (λ (w : List ℕ). read_term below (w ++ last)) s ∙ h)
items_err below (suc n) (item t ts) elements last e some s lt h =
    let one : read_term below (elements ++ last) ≡ Ok (t, s.1 ++ last) =
    ap (read_term below) (ap (λ (w : List ℕ). w ++ last) s.4 ∙ append_assoc s.0 s.1 last)
    ∙ (Reads-term below some).again t s.0 (s.1 ++ last) s.2 in
    let others = items_err below n ts s.1 last e some s.3 (omega arith) h in
    ok_of_bind (read_term below (elements ++ last)) (λ t. items_with (read_term below) n t.1 >>= λ ts. Ok (item t.0 ts.0, ts.1))
    (t, s.1 ++ last) one
    ∙ err_of_bind (items_with (read_term below) n (s.1 ++ last)) (λ ts. Ok (item t ts.0, ts.1)) e others

arity_low : (below n : ℕ) → 0 < below → n < 2 ^ 32 → n ≤ arities below
arity_low zero n some lt = absurd (omega arith)
arity_low (suc below) n some lt = let e : arities (suc below) ≡ 2 ^ 32 - 1 = rw (suc_not below) refl in omega arith

tuple_err : (below width n : ℕ) (before : Items) (arity elements last : List ℕ) (e : TermError) → 0 < below → n < 2 ^ 32
    → IsNumber width n arity → SpellAll (Spells below) before elements → count before < n → read_term below last ≡ Err e
    → tuple_with below (read_term below) width (arity ++ (elements ++ last)) ≡ Err e
unfolding tuple_with
tuple_err below width n before arity elements last e some low num s lt h =
    let read =
    (Reads-number TooDeep (arities below) width (λ e. cc)).again n arity (elements ++ last)
    (record { number = num; bound = arity_low below n some low }) in
    ok_of_bind (read_bounded TooDeep (arities below) width (arity ++ (elements ++ last)))
    (λ arity. items_with (read_term below) arity.0 arity.1 >>= λ ts. Ok (tuple ts.0, ts.1)) (n, elements ++ last) read
    ∙ err_of_bind (items_with (read_term below) n (elements ++ last)) (λ ts. Ok (tuple ts.0, ts.1)) e
    (items_err below n before elements last e some s lt h)

tag_err : (below tag width n : ℕ) (before : Items) (arity elements last : List ℕ) (e : TermError)
    → ((tag ≡ 104) × (width ≡ 1)) ⊎ ((tag ≡ 105) × (width ≡ 4)) → 0 < below → IsNumber width n arity
    → SpellAll (Spells below) before elements → count before < n → read_term below last ≡ Err e
    → read_term (suc below) (tag ∷ (arity ++ (elements ++ last))) ≡ Err e
unfolding row_with
tag_err below tag width n before arity elements last e (inl w) some num s lt h =
    let one = subst (λ (j : ℕ). IsNumber j n arity) w.1 num in
    ap (λ (j : ℕ). read_term (suc below) (j ∷ (arity ++ (elements ++ last)))) w.0
    ∙ tag_read below 104 (arity ++ (elements ++ last)) (omega arith)
    ∙ tuple_err below 1 n before arity elements last e some (let k = number_1 n arity one in omega arith) one s lt h
tag_err below tag width n before arity elements last e (inr w) some num s lt h =
    let four = subst (λ (j : ℕ). IsNumber j n arity) w.1 num in
    ap (λ (j : ℕ). read_term (suc below) (j ∷ (arity ++ (elements ++ last)))) w.0
    ∙ tag_read below 105 (arity ++ (elements ++ last)) (omega arith)
    ∙ tuple_err below 4 n before arity elements last e some (number_4 n arity four) four s lt h

-- a list whose items are all there, and whose tail is at fault
tail_err : (below n : ℕ) (before : Items) (elements last : List ℕ) (e : TermError) → 0 < below
    → SpellAll (Spells below) before elements → count before ≡ n → read_term below last ≡ Err e
    → and_then (items_with (read_term below) n) (tail_after (read_term below)) (elements ++ last) ≡ Err e
tail_err below n before elements last e some s all h =
    let items = (Reads-items (Spells below) (read_term below) n (λ lt. Reads-term below some)).again before elements last (all, s) in
    ok_of_bind (items_with (read_term below) n (elements ++ last)) (λ ts. tail_after (read_term below) ts.0 ts.1) (before, last) items
    ∙ err_of_bind (read_term below last) (λ t. Ok (joined before t.0, t.1)) e h

cells_err : (below n : ℕ) (before : Items) (len elements last : List ℕ) (e : TermError) → 0 < below → IsNumber 4 n len
    → SpellAll (Spells below) before elements → count before ≤ n → read_term below last ≡ Err e
    → read_term (suc below) (108 ∷ (len ++ (elements ++ last))) ≡ Err e
unfolding row_with
cells_err below n before len elements last e some num s le h =
    tag_read below 108 (len ++ (elements ++ last)) (omega arith)
    ∙ list_same below (read_term below) (len ++ (elements ++ last)) some
    ∙ ok_of_bind (read_number 4 (len ++ (elements ++ last)))
    (λ n. and_then (items_with (read_term below) n.0) (tail_after (read_term below)) n.1) (n, elements ++ last)
    ((Reads-any 4).again n len (elements ++ last) num)
    ∙ elim (cases_lt (count before) n) as
    (λ _. and_then (items_with (read_term below) n) (tail_after (read_term below)) (elements ++ last) ≡ Err e) [
      | inl lt ↦
          err_of_bind (items_with (read_term below) n (elements ++ last)) (λ ts. tail_after (read_term below) ts.0 ts.1) e
          (items_err below n before elements last e some s lt h)
      | inr ge ↦ tail_err below n before elements last e some s (let z : count before ≡ n = omega arith in z) h
    ]

nested_err : (levels : ℕ) (At : List ℕ → Type 0) (byte : ℕ) (e : TermError)
    → ((below : ℕ) (inner : List ℕ) → At inner → read_term (suc below) (inner ++ byte ∷ []) ≡ Err e) → (front : List ℕ)
    → Nested levels At front → read_term levels (front ++ byte ∷ []) ≡ Err e
nested_err zero At byte e h front n = absurd n
nested_err (suc below) At byte e h front (inl at) = h below front at
nested_err (suc below) At byte e h front (inr (inl t)) =
    let inside = nested_err below At byte e h t.inner t.at in
    let parts : front ++ byte ∷ [] ≡ t.tag ∷ (t.arity ++ (t.elements ++ (t.inner ++ byte ∷ []))) =
    ap (λ (w : List ℕ). w ++ byte ∷ []) t.parts ∙ ap (λ (w : List ℕ). t.tag ∷ w) (append_assoc t.arity (t.elements ++ t.inner) (byte ∷ [])
    ∙ ap (λ (w : List ℕ). t.arity ++ w) (append_assoc t.elements t.inner (byte ∷ []))) in
    ap (read_term (suc below)) parts
    ∙ tag_err below t.tag t.width t.n t.before t.arity t.elements (t.inner ++ byte ∷ []) e t.is_tuple
    (some_nested below At t.inner t.at) t.number t.spelled t.left inside
nested_err (suc below) At byte e h front (inr (inr t)) =
    let inside = nested_err below At byte e h t.inner t.at in
    let parts : front ++ byte ∷ [] ≡ 108 ∷ (t.len ++ (t.elements ++ (t.inner ++ byte ∷ []))) =
    ap (λ (w : List ℕ). w ++ byte ∷ []) t.parts ∙ ap (λ (w : List ℕ). 108 ∷ w) (append_assoc t.len (t.elements ++ t.inner) (byte ∷ [])
    ∙ ap (λ (w : List ℕ). t.len ++ w) (append_assoc t.elements t.inner (byte ∷ []))) in
    ap (read_term (suc below)) parts
    ∙ cells_err below t.n t.before t.len t.elements (t.inner ++ byte ∷ []) e
    (some_nested below At t.inner t.at) t.number t.spelled t.left inside

place_err : (At : List ℕ → Type 0) (byte : ℕ) (e : TermError) (front : List ℕ)
    → ((below : ℕ) (inner : List ℕ) → At inner → read_term (suc below) (inner ++ byte ∷ []) ≡ Err e) → AtPlace At front
    → read_spelling (front ++ byte ∷ []) ≡ Err e
place_err At byte e front h p =
    ap (λ (w : List ℕ). read_spelling (w ++ byte ∷ [])) p.parts ∙ version_read (p.inner ++ byte ∷ [])
    ∙ nested_err 64 At byte e h p.inner p.nested

-- ---- out of the profile

unknown_err : (byte : ℕ) → byte < 256 → is_tag byte ≡ false → (below : ℕ) (inner : List ℕ) → inner ≡ []
    → read_term (suc below) (inner ++ byte ∷ []) ≡ Err (OutOfProfile byte)
unknown_err byte lt h below inner none =
    ap (λ (w : List ℕ). read_term (suc below) (w ++ byte ∷ [])) none ∙ tag_read below byte [] lt
    ∙ unknown_row below (read_term below) byte [] h

long_err : (byte : ℕ) → 16 < byte → read_big (byte ∷ []) ≡ Err (OutOfProfile 110)
unfolding read_big
long_err byte lt =
    let one : big_number 1 (byte ∷ []) ≡ byte = omega arith in
    let high : ltb 16 (big_number 1 (byte ∷ [])) ≡ true = lt-ltb 16 (big_number 1 (byte ∷ [])) (omega arith) in
    rw high refl

large_by : (n sign : ℕ) (bytes : List ℕ) → length bytes ≡ n → 2 ^ 127 + sign ≤ low_first bytes
    → Weighs n sign bytes (magnitude_at n sign bytes) → magnitude_at n sign bytes ≡ Err (OutOfProfile 110)
large_by n sign bytes len high (weighs_cut l r) = absurd (omega arith)
large_by n sign bytes len high (weighs_large l g r) = r
large_by n sign bytes len high (weighs_in l g r) =
    let same : low_first (take n bytes) ≡ low_first bytes = ap low_first (take_all n bytes (omega arith)) in absurd (omega arith)

large_err : (sign : ℕ) (digits : List ℕ) (byte : ℕ) → sign ≤ 1 → length digits < 16
    → 2 ^ 127 + sign ≤ low_first (digits ++ byte ∷ [])
    → read_big (suc (length digits) ∷ sign ∷ (digits ++ byte ∷ [])) ≡ Err (OutOfProfile 110)
unfolding read_big
large_err sign digits byte le lt high =
    let n = suc (length digits) in
    let first =
    (Reads-number (OutOfProfile 110) 16 1 (λ e. cc)).again n (n ∷ []) (sign ∷ (digits ++ byte ∷ []))
    (record { number = byte_number n (omega arith); bound = omega arith }) in
    let second =
    (Reads-number Malformed 1 1 (λ e. cc)).again sign (sign ∷ []) (digits ++ byte ∷ [])
    (record { number = byte_number sign (omega arith); bound = le }) in
    let third =
    large_by n sign (digits ++ byte ∷ []) (omega (arith, length-append digits (byte ∷ []))) high
    (weighs n sign (digits ++ byte ∷ [])) in
    ok_of_bind (read_bounded (OutOfProfile 110) 16 1 (n ∷ sign ∷ (digits ++ byte ∷ [])))
    (λ m. read_bounded Malformed 1 1 m.1 >>= λ s. magnitude_at m.0 s.0 s.1) (n, sign ∷ (digits ++ byte ∷ [])) first
    ∙ ok_of_bind (read_bounded Malformed 1 1 (sign ∷ (digits ++ byte ∷ []))) (λ s. magnitude_at n s.0 s.1)
    (sign, digits ++ byte ∷ []) second
    ∙ third

bad_big_err : (byte below : ℕ) (inner : List ℕ) → IsBadBig byte inner → read_term (suc below) (inner ++ byte ∷ []) ≡ Err (OutOfProfile 110)
unfolding row_with
bad_big_err byte below inner (inl w) =
    ap (λ (v : List ℕ). read_term (suc below) (v ++ byte ∷ [])) w.0 ∙ tag_read below 110 (byte ∷ []) (omega arith) ∙ long_err byte w.1
bad_big_err byte below inner (inr w) =
    ap (λ (v : List ℕ). read_term (suc below) (v ++ byte ∷ [])) w.parts
    ∙ tag_read below 110 (suc (length w.digits) ∷ w.sign ∷ (w.digits ++ byte ∷ [])) (omega arith)
    ∙ large_err w.sign w.digits byte w.is_sign w.short w.large

pub profile_read : (front : List ℕ) (byte tag : ℕ) → byte < 256 → IsOutOfProfile front byte tag
    → read_spelling (front ++ byte ∷ []) ≡ Err (OutOfProfile tag)
profile_read front byte tag lt (inl w) =
    subst (λ (k : ℕ). read_spelling (front ++ byte ∷ []) ≡ Err (OutOfProfile k)) (sym w.0)
    (place_err (λ inner. inner ≡ []) byte (OutOfProfile byte) front (unknown_err byte lt w.1.1) w.1.0)
profile_read front byte tag lt (inr w) =
    subst (λ (k : ℕ). read_spelling (front ++ byte ∷ []) ≡ Err (OutOfProfile k)) (sym w.0)
    (place_err (IsBadBig byte) byte (OutOfProfile 110) front (bad_big_err byte) w.1)

-- ---- the kinds

same_error : {A : Type 0} (e f : TermError) (r : Result A TermError) → r ≡ Err e → r ≡ Err f → e ≡ f
same_error e f r h k = let q : Err e ≡ Err f = sym h ∙ k in cc

-- the kind of what the reader answers
pub kind_is : (front : List ℕ) (byte : ℕ) (e : TermError) → AreBytes (front ++ byte ∷ []) → byte < 256 → e ≢ Cut
    → read_spelling (front ++ byte ∷ []) ≡ Err e → Kind front byte e → IsKind front byte e
kind_is front byte e h lt c k (out_of_profile tag q w) = subst (IsKind front byte) (sym q) w
kind_is front byte e h lt c k (too_deep q w) = subst (IsKind front byte) (sym q) w
kind_is front byte e h lt c k (is_malformed q) =
    subst (IsKind front byte) (sym q) (
      λ d. let z = deep_read front byte e h c k d in let y : Malformed ≡ TooDeep = sym q ∙ z in cc,
      λ tag p. let z =
          same_error e (OutOfProfile tag) (read_spelling (front ++ byte ∷ [])) k (profile_read front byte tag lt p) in
          let y : Malformed ≡ OutOfProfile tag = sym q ∙ z in cc,
    )

-- and no other kind fits
pub kind_answer : (front : List ℕ) (byte : ℕ) (e f : TermError) → AreBytes (front ++ byte ∷ []) → byte < 256 → e ≢ Cut
    → read_spelling (front ++ byte ∷ []) ≡ Err e → Kind front byte e → IsKind front byte f → e ≡ f
kind_answer front byte e TooDeep h lt c k w d = deep_read front byte e h c k d
kind_answer front byte e (OutOfProfile tag) h lt c k w p =
    same_error e (OutOfProfile tag) (read_spelling (front ++ byte ∷ [])) k (profile_read front byte tag lt p)
kind_answer front byte e Malformed h lt c k (out_of_profile tag q w) p = absurd (p.1 tag w)
kind_answer front byte e Malformed h lt c k (too_deep q w) p = absurd (p.0 w)
kind_answer front byte e Malformed h lt c k (is_malformed q) p = q
kind_answer front byte e due h lt c k w p = absurd p
