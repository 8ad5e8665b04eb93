-- The rows of the table, each by the readers of its fields.
use Rattle.std.proofs.Common.{◌≡◌, ◌≢◌, ℕ, zero, suc, ◌+◌, ◌-◌, ◌*◌, ◌^◌, ◌<◌, ◌≤◌, Bool, true, false, cond, ltb}
use Rattle.std.proofs.Common.{List, [], ◌++◌, length, get_or, take, drop, Ok, Err, refl, sym, ap, subst, ◌∙◌, arith}
use Rattle.std.specs.Prelude.{pos, replicate}
use Rattle.std.specs.Int.{w32, cast_signed}
use Rattle.std.proofs.Math.Nat.{pow-succ', one-le-pow}
use Rattle.std.proofs.lemmas.Bool.{ltb-false, ltb-true}
use Rattle.std.proofs.lemmas.List.{take_at, drop_at, take-append-drop, length-append, length-take}
use Rattle.std.proofs.lemmas.List.{length-replicate, get_or_past, take-append-le, take_all}
use Rattle.byteorder.specs.Endian.{little_from}
use Rattle.erl_term.specs.declared.error.TermError.{TermError}
use Rattle.erl_term.specs.declared.error.TermError.TheVariants.{Cut, Malformed, OutOfProfile, TooDeep}
use Rattle.erl_term.specs.Data.{Data, int, tuple, Items, no_items, item, count}
use Rattle.erl_term.specs.Numbers.{AreBytes, low_first, signed}
use Rattle.erl_term.specs.Spelling.{IsNumber, SpellAll}
use Rattle.erl_term.specs.Reading.{Read, ◌>>=◌, read_number, read_bounded, read_part, read_small, read_integer}
use Rattle.erl_term.specs.Reading.{read_big, read_text, read_atom, items_with, arities, tuple_with}
use Rattle.erl_term.proofs.Readers.{Takes, Begins, Reads, Then, and_then, Reads-then, Reads-same, Mapped, Reads-map, Reads-only}
use Rattle.readers.specs.Laws.{IsOnly}
use Rattle.erl_term.proofs.Base.{ok_is, padded_at, AreBytes-padded, AreBytes-take, Reads-any, IsNumberTo, Reads-number}
use Rattle.erl_term.proofs.TextReader.{IsText, Reads-text}

-- ---- integers

pub Reads-small : Reads (Mapped (λ n. int (pos n)) (IsNumber 1)) read_small
unfolding read_small
Reads-small = Reads-map (λ n. int (pos n)) (IsNumber 1) (read_number 1) (Reads-any 1)

pub Reads-integer : Reads (Mapped (λ n. int (cast_signed w32 n)) (IsNumber 4)) read_integer
unfolding read_integer
Reads-integer = Reads-map (λ n. int (cast_signed w32 n)) (IsNumber 4) (read_number 4) (Reads-any 4)

-- ---- atoms

pub Reads-atom : (width : ℕ) → Reads (Then (IsNumberTo 1020 width) IsText) (read_atom width)
unfolding read_atom
Reads-atom width =
    Reads-then (IsNumberTo 1020 width) IsText (read_bounded Malformed 1020 width) read_text
    (Reads-number Malformed 1020 width (λ e. cc)) (λ n text s. Reads-text n s.bound)

-- ---- so many terms

abbrev pub AreItems : (Data → List ℕ → Type 0) → ℕ → Items → List ℕ → Type 0
AreItems Spell n ts b = (count ts ≡ n) × SpellAll Spell ts b

no_items_same : (Spell : Data → List ℕ → Type 0) (ts : Items) (b : List ℕ) → AreItems Spell 0 ts b → IsOnly no_items ts b
no_items_same Spell no_items b s = (refl, s.1)
no_items_same Spell (item t ts) b s = absurd (let e = s.0 in omega arith)

more_items_to : (Spell : Data → List ℕ → Type 0) (n : ℕ) (ts : Items) (b : List ℕ)
    → Then Spell (λ t. Mapped (item t) (AreItems Spell n)) ts b → AreItems Spell (suc n) ts b
more_items_to Spell n ts b s =
    subst (λ us. AreItems Spell (suc n) us b) (sym s.is_back.made)
    (ap suc s.is_back.is_text.0, (s.front, s.back, s.is_front, s.is_back.is_text.1, s.parts))

more_items_back : (Spell : Data → List ℕ → Type 0) (n : ℕ) (ts : Items) (b : List ℕ) → AreItems Spell (suc n) ts b
    → Then Spell (λ t. Mapped (item t) (AreItems Spell n)) ts b
more_items_back Spell n no_items b s = absurd (let e = s.0 in omega arith)
more_items_back Spell n (item t ts) b s =
    let same : count ts ≡ n = let e = s.0 in omega arith in
    record {
      value = t;
      front = s.1.0;
      back = s.1.1;
      is_front = s.1.2;
      is_back = record { value = ts; is_text = (same, s.1.3); made = refl };
      parts = s.1.4;
    }

pub Reads-items : (Spell : Data → List ℕ → Type 0) (one : List ℕ → Read Data) (n : ℕ) → (0 < n → Reads Spell one)
    → Reads (AreItems Spell n) (items_with one n)
unfolding items_with
Reads-items Spell one zero r =
    Reads-same (IsOnly no_items) (AreItems Spell 0) (λ bytes. Ok (no_items, bytes))
    (λ ts b s. subst (λ us. AreItems Spell 0 us b) (sym s.0) (refl, s.1)) (no_items_same Spell) (Reads-only no_items)
Reads-items Spell one (suc n) r =
    let first : Reads Spell one = r (omega arith) in
    Reads-same (Then Spell (λ t. Mapped (item t) (AreItems Spell n))) (AreItems Spell (suc n))
    (and_then one (λ t bytes. items_with one n bytes >>= λ ts. Ok (item t ts.0, ts.1)))
    (more_items_to Spell n) (more_items_back Spell n)
    (Reads-then Spell (λ t. Mapped (item t) (AreItems Spell n)) one
    (λ t bytes. items_with one n bytes >>= λ ts. Ok (item t ts.0, ts.1)) first
    (λ t text s. Reads-map (item t) (AreItems Spell n) (items_with one n) (Reads-items Spell one n (λ k. first))))

-- ---- tuples

-- a tuple with elements has a level below it
pub some_below : (below n : ℕ) → n ≤ arities below → 0 < n → 0 < below
some_below zero n le lt = absurd (omega arith)
some_below (suc b) n le lt = omega arith

pub Reads-tuple : (below : ℕ) (Spell : Data → List ℕ → Type 0) (one : List ℕ → Read Data) (width : ℕ)
    → (0 < below → Reads Spell one)
    → Reads (Then (IsNumberTo (arities below) width) (λ n. Mapped tuple (AreItems Spell n))) (tuple_with below one width)
unfolding tuple_with
Reads-tuple below Spell one width r =
    Reads-then (IsNumberTo (arities below) width) (λ n. Mapped tuple (AreItems Spell n))
    (read_bounded TooDeep (arities below) width) (λ n bytes. items_with one n bytes >>= λ ts. Ok (tuple ts.0, ts.1))
    (Reads-number TooDeep (arities below) width (λ e. cc))
    (λ n text s.
    Reads-map tuple (AreItems Spell n) (items_with one n) (Reads-items Spell one n (λ some. r (some_below below n s.bound some))))

-- ---- big integers

pub record IsMagnitude (n sign : ℕ) (t : Data) (b : List ℕ) : Type 0 where
  pub len : length b ≡ n
  pub are_bytes : AreBytes b
  pub in_range : low_first b < 2 ^ 127 + sign
  pub made : t ≡ int (signed sign (low_first b))

abbrev pub judged_magnitude : ℕ → List ℕ × List ℕ → Read Data
judged_magnitude sign m = cond (ltb (low_first m.0) (2 ^ 127 + sign)) (Ok (int (signed sign (low_first m.0)), m.1)) (Err (OutOfProfile 110))

abbrev pub magnitude_at : ℕ → ℕ → List ℕ → Read Data
magnitude_at n sign bytes = read_part n bytes >>= judged_magnitude sign

-- how it answers, by cases
pub data Weighs (n sign : ℕ) (bytes : List ℕ) (r : Read Data) : Type 0 where
  weighs_cut : length bytes < n → r ≡ Err Cut → Weighs n sign bytes r
  weighs_large : n ≤ length bytes → 2 ^ 127 + sign ≤ low_first (take n bytes) → r ≡ Err (OutOfProfile 110) → Weighs n sign bytes r
  weighs_in : n ≤ length bytes → low_first (take n bytes) < 2 ^ 127 + sign
      → r ≡ Ok (int (signed sign (low_first (take n bytes))), drop n bytes) → Weighs n sign bytes r

weighs_of : (n sign : ℕ) (bytes : List ℕ) (short low : Bool) → ltb (length bytes) n ≡ short
    → ltb (low_first (take n bytes)) (2 ^ 127 + sign) ≡ low
    → Weighs n sign bytes (cond short (Err Cut) (Ok (take n bytes, drop n bytes)) >>= λ (m : List ℕ × List ℕ).
    cond (ltb (low_first m.0) (2 ^ 127 + sign)) (Ok (int (signed sign (low_first m.0)), m.1)) (Err (OutOfProfile 110)))
weighs_of n sign bytes true low s l = weighs_cut (ltb-true _ _ s) refl
weighs_of n sign bytes false true s l = weighs_in (ltb-false _ _ s) (ltb-true _ _ l) (rw l refl)
weighs_of n sign bytes false false s l = weighs_large (ltb-false _ _ s) (ltb-false _ _ l) (rw l refl)

pub weighs : (n sign : ℕ) (bytes : List ℕ) → Weighs n sign bytes (magnitude_at n sign bytes)
weighs n sign bytes = weighs_of n sign bytes _ _ refl refl

magnitude_takes : (n sign : ℕ) (bytes : List ℕ) (t : Data) (rest : List ℕ) → AreBytes bytes
    → Weighs n sign bytes (magnitude_at n sign bytes) → magnitude_at n sign bytes ≡ Ok (t, rest)
    → Takes (IsMagnitude n sign) bytes t rest
magnitude_takes n sign bytes t rest h (weighs_cut l e) eq = absurd cc
magnitude_takes n sign bytes t rest h (weighs_large l g e) eq = absurd cc
magnitude_takes n sign bytes t rest h (weighs_in l g e) eq =
    let same : (int (signed sign (low_first (take n bytes))), drop n bytes) ≡ (t, rest) = ok_is _ _ (sym e ∙ eq) in
    let len : length (take n bytes) ≡ n = omega (arith, length-take n bytes) in
    record {
      text = take n bytes;
      is_text = record { len = len; are_bytes = AreBytes-take n bytes h; in_range = g; made = sym (ap (λ (q : Data × List ℕ). q.0) same) };
      parts = sym (take-append-drop n bytes) ∙ ap (λ (r : List ℕ). take n bytes ++ r) (ap (λ (q : Data × List ℕ). q.1) same);
    }

magnitude_again : (n sign : ℕ) (t : Data) (text rest : List ℕ) → IsMagnitude n sign t text
    → Weighs n sign (text ++ rest) (magnitude_at n sign (text ++ rest)) → magnitude_at n sign (text ++ rest) ≡ Ok (t, rest)
magnitude_again n sign t text rest s (weighs_cut l e) = absurd (let k = s.len in omega (arith, length-append text rest))
magnitude_again n sign t text rest s (weighs_large l g e) =
    let same : low_first (take n (text ++ rest)) ≡ low_first text = ap low_first (take_at text rest n s.len) in
    absurd (let k = s.in_range in omega arith)
magnitude_again n sign t text rest s (weighs_in l g e) = e ∙ rw (take_at text rest n s.len, drop_at text rest n s.len, s.made) refl

magnitude_stable : (n sign : ℕ) (bytes more : List ℕ) (f : TermError) → f ≢ Cut
    → Weighs n sign bytes (magnitude_at n sign bytes) → Weighs n sign (bytes ++ more) (magnitude_at n sign (bytes ++ more))
    → magnitude_at n sign bytes ≡ Err f → magnitude_at n sign (bytes ++ more) ≡ Err f
magnitude_stable n sign bytes more f c (weighs_cut l e) w eq = absurd (c (let q = sym eq ∙ e in cc))
magnitude_stable n sign bytes more f c (weighs_in l g e) w eq = absurd cc
magnitude_stable n sign bytes more f c (weighs_large l g e) (weighs_large m k d) eq = d ∙ cc
magnitude_stable n sign bytes more f c (weighs_large l g e) (weighs_cut m d) eq = absurd (omega (arith, length-append bytes more))
magnitude_stable n sign bytes more f c (weighs_large l g e) (weighs_in m k d) eq =
    let same : low_first (take n (bytes ++ more)) ≡ low_first (take n bytes) = ap low_first (take-append-le n bytes more l) in
    absurd (omega arith)

-- a number whose bytes from place m on are 0
little_from-low : (i n m : ℕ) (xs : List ℕ) → AreBytes xs → ((k : ℕ) → i + m ≤ k → get_or xs k 0 ≡ 0) → little_from i n xs < 256 ^ m
little_from-low i zero m xs h z = let p = one-le-pow m 256 (omega arith) in omega arith
little_from-low i (suc n) zero xs h z =
    let one : get_or xs i 0 ≡ 0 = z i (omega arith) in
    let more : little_from (suc i) n xs < 256 ^ 0 = little_from-low (suc i) n zero xs h (λ k le. z k (omega arith)) in
    omega arith
little_from-low i (suc n) (suc m) xs h z =
    let one : get_or xs i 0 < 256 = h i in
    let more : little_from (suc i) n xs < 256 ^ m = little_from-low (suc i) n m xs h (λ k le. z k (omega arith)) in
    let p : 256 ^ suc m ≡ 256 * 256 ^ m = pow-succ' 256 m in
    omega arith

magnitude_goes_on : (n sign : ℕ) (bytes : List ℕ) → n ≤ 16 → AreBytes bytes → Weighs n sign bytes (magnitude_at n sign bytes)
    → magnitude_at n sign bytes ≡ Err Cut → Begins (IsMagnitude n sign) bytes
magnitude_goes_on n sign bytes le h (weighs_large l g e) eq = absurd (let q : Err (OutOfProfile 110) ≡ Err Cut = sym e ∙ eq in cc)
magnitude_goes_on n sign bytes le h (weighs_in l g e) eq = absurd cc
magnitude_goes_on n sign bytes le h (weighs_cut l e) eq =
    let pad : List ℕ = replicate (n - length bytes) 0 in
    let whole : List ℕ = bytes ++ pad in
    let low : low_first whole < 256 ^ 15 =
    little_from-low 0 (length whole) 15 whole (AreBytes-padded bytes (n - length bytes) h)
    (λ k far. padded_at bytes (n - length bytes) k ∙ get_or_past bytes k 0 (omega arith)) in
    record {
      value = int (signed sign (low_first whole));
      more = pad;
      is_text = record {
        len = omega (arith, length-append bytes pad, length-replicate {A = ℕ} (n - length bytes) 0);
        are_bytes = AreBytes-padded bytes (n - length bytes) h;
        in_range = omega arith;
        made = refl;
      };
    }

magnitude_starts : (n sign : ℕ) (e : TermError) → Weighs n sign [] (magnitude_at n sign []) → magnitude_at n sign [] ≡ Err e → e ≡ Cut
magnitude_starts n sign e (weighs_cut l d) eq = cc
magnitude_starts n sign e (weighs_in l g d) eq = absurd cc
magnitude_starts n sign e (weighs_large l g d) eq =
    let none : take n [] ≡ [] = take_all {A = ℕ} n [] (omega arith) in
    let small : low_first (take n []) ≡ 0 = ap low_first none in absurd (omega arith)

pub Reads-magnitude : (n sign : ℕ) → n ≤ 16 → Reads (IsMagnitude n sign) (magnitude_at n sign)
Reads-magnitude n sign le = record {
  takes = λ bytes t rest h e. magnitude_takes n sign bytes t rest h (weighs n sign bytes) e;
  again = λ t text rest s. magnitude_again n sign t text rest s (weighs n sign (text ++ rest));
  stable = λ bytes more e h c k. magnitude_stable n sign bytes more e c (weighs n sign bytes) (weighs n sign (bytes ++ more)) k;
  goes_on = λ bytes h e. magnitude_goes_on n sign bytes le h (weighs n sign bytes) e;
  starts = λ e k. magnitude_starts n sign e (weighs n sign []) k;
}

pub Reads-big : Reads (Then (IsNumberTo 16 1) (λ n. Then (IsNumberTo 1 1) (IsMagnitude n))) read_big
unfolding read_big
Reads-big =
    Reads-then (IsNumberTo 16 1) (λ n. Then (IsNumberTo 1 1) (IsMagnitude n)) (read_bounded (OutOfProfile 110) 16 1)
    (λ n. and_then (read_bounded Malformed 1 1) (magnitude_at n)) (Reads-number (OutOfProfile 110) 16 1 (λ e. cc))
    (λ n text s. Reads-then (IsNumberTo 1 1) (IsMagnitude n) (read_bounded Malformed 1 1) (magnitude_at n)
    (Reads-number Malformed 1 1 (λ e. cc)) (λ sign more z. Reads-magnitude n sign s.bound))
