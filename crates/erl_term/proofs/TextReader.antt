-- The reader of an atom's text.
use Rattle.std.proofs.Common.{◌≡◌, ◌≢◌, ℕ, ◌+◌, ◌-◌, ◌<◌, ◌≤◌, Bool, true, false, cond, ltb, leb, List, []}
use Rattle.std.proofs.Common.{◌++◌, length, take, drop, Ok, Err, refl, sym, ap, subst, ◌∙◌, append_assoc, arith}
use Rattle.std.proofs.lemmas.Bool.{ltb-false, ltb-true, leb-true, and_parts}
use Rattle.std.proofs.lemmas.List.{take_at, drop_at, take-append-drop, length-append, length-take, take_all, take-append-le}
use Rattle.std.proofs.Math.Seq.{take-append-add}
use Rattle.std.specs.Str.{is_utf8, chars}
use Rattle.std.proofs.lemmas.Str.{IsUtf8-from_is_utf8, IsUtf8-nil, chars-nil}
use Rattle.erl_term.specs.declared.error.TermError.{TermError}
use Rattle.erl_term.specs.declared.error.TermError.TheVariants.{Cut, Malformed}
use Rattle.erl_term.specs.Numbers.{AreBytes}
use Rattle.erl_term.specs.Text.{IsAtomText, is_atom_text, may_become_text}
use Rattle.erl_term.specs.Reading.{Read, read_text}
use Rattle.erl_term.proofs.Texts.{is_atom_text-holds}
use Rattle.erl_term.proofs.Readers.{Takes, Begins, Reads}
use Rattle.erl_term.proofs.Base.{ok_is}
use Rattle.erl_term.proofs.Utf8.{empty_may}
use Rattle.erl_term.proofs.Utf8Begun.{completed}
use Rattle.erl_term.proofs.Utf8Completed.{completes}

-- the bytes are the text of an atom, n of them
pub record IsText (n : ℕ) (a b : List ℕ) : Type 0 where
  pub same : b ≡ a
  pub len : length a ≡ n
  pub is_text : IsAtomText a

pub IsAtomText-from : (a : List ℕ) → is_atom_text a ≡ true → IsAtomText a
IsAtomText-from a e =
    let p = and_parts (is_utf8 a) (leb (length (chars a)) 255) e in
    record { utf8 = IsUtf8-from_is_utf8 a p.0; short = leb-true (length (chars a)) 255 p.1 }

pub is_atom_text-from : (a : List ℕ) → IsAtomText a → is_atom_text a ≡ true
is_atom_text-from a t = is_atom_text-holds a t.utf8 t.short

nothing_is_text : is_atom_text [] ≡ true
nothing_is_text = is_atom_text-holds [] IsUtf8-nil (rw chars-nil (omega arith))

-- how the reader answers, by cases
pub data Says (n : ℕ) (bytes : List ℕ) (r : Read (List ℕ)) : Type 0 where
  says_cut : length bytes < n → may_become_text n bytes ≡ true → r ≡ Err Cut → Says n bytes r
  says_hopeless : length bytes < n → may_become_text n bytes ≡ false → r ≡ Err Malformed → Says n bytes r
  says_text : n ≤ length bytes → is_atom_text (take n bytes) ≡ true → r ≡ Ok (take n bytes, drop n bytes) → Says n bytes r
  says_bad : n ≤ length bytes → is_atom_text (take n bytes) ≡ false → r ≡ Err Malformed → Says n bytes r

abbrev answer : ℕ → List ℕ → Bool → Bool → Bool → Read (List ℕ)
answer n bytes short may text =
    cond short (cond may (Err Cut) (Err Malformed)) (cond text (Ok (take n bytes, drop n bytes)) (Err Malformed))

says_of : (n : ℕ) (bytes : List ℕ) (short may text : Bool) → ltb (length bytes) n ≡ short → may_become_text n bytes ≡ may
    → is_atom_text (take n bytes) ≡ text → Says n bytes (answer n bytes short may text)
says_of n bytes true true text s m t = says_cut (ltb-true _ _ s) m refl
says_of n bytes true false text s m t = says_hopeless (ltb-true _ _ s) m refl
says_of n bytes false may true s m t = says_text (ltb-false _ _ s) t refl
says_of n bytes false may false s m t = says_bad (ltb-false _ _ s) t refl

pub says : (n : ℕ) (bytes : List ℕ) → Says n bytes (read_text n bytes)
unfolding read_text
says n bytes = says_of n bytes _ _ _ refl refl refl

text_takes : (n : ℕ) (bytes a rest : List ℕ) → Says n bytes (read_text n bytes) → read_text n bytes ≡ Ok (a, rest)
    → Takes (IsText n) bytes a rest
text_takes n bytes a rest (says_cut l m e) eq = absurd cc
text_takes n bytes a rest (says_hopeless l m e) eq = absurd cc
text_takes n bytes a rest (says_bad l t e) eq = absurd cc
text_takes n bytes a rest (says_text l t e) eq =
    let same : (take n bytes, drop n bytes) ≡ (a, rest) = ok_is _ _ (sym e ∙ eq) in
    let a-is : take n bytes ≡ a = ap (λ (q : List ℕ × List ℕ). q.0) same in
    let rest-is : drop n bytes ≡ rest = ap (λ (q : List ℕ × List ℕ). q.1) same in
    let len : length (take n bytes) ≡ n = omega (arith, length-take n bytes) in
    record {
      text = take n bytes;
      is_text = record {
        same = a-is;
        len = ap length (sym a-is) ∙ len;
        is_text = subst IsAtomText a-is (IsAtomText-from (take n bytes) t);
      };
      parts = sym (take-append-drop n bytes) ∙ ap (λ (r : List ℕ). take n bytes ++ r) rest-is;
    }

text_again_at : (n : ℕ) (a rest : List ℕ) → length a ≡ n → IsAtomText a → Says n (a ++ rest) (read_text n (a ++ rest))
    → read_text n (a ++ rest) ≡ Ok (a, rest)
text_again_at n a rest len t (says_cut l m e) = absurd (omega (arith, length-append a rest))
text_again_at n a rest len t (says_hopeless l m e) = absurd (omega (arith, length-append a rest))
text_again_at n a rest len t (says_bad l b e) =
    let same : is_atom_text (take n (a ++ rest)) ≡ true = rw (take_at a rest n len) (is_atom_text-from a t) in absurd cc
text_again_at n a rest len t (says_text l b e) = e ∙ rw (take_at a rest n len, drop_at a rest n len) refl

text_again : (n : ℕ) (a text rest : List ℕ) → IsText n a text → read_text n (text ++ rest) ≡ Ok (a, rest)
text_again n a text rest s = rw s.same (text_again_at n a rest s.len s.is_text (says n (a ++ rest)))

-- what has been at fault once stays so
hopeless : (n : ℕ) (bytes more : List ℕ) → AreBytes bytes → length bytes < n → may_become_text n bytes ≡ false
    → Says n (bytes ++ more) (read_text n (bytes ++ more)) → read_text n (bytes ++ more) ≡ Err Malformed
hopeless n bytes more h lt never (says_hopeless l m e) = e
hopeless n bytes more h lt never (says_bad l t e) = e
hopeless n bytes more h lt never (says_cut l m e) =
    let c = completes n (bytes ++ more) l m in
    let k : may_become_text n bytes ≡ true =
    completed n bytes lt (record {
      more = more ++ c.more;
      len = ap length (sym (append_assoc bytes more c.more)) ∙ c.len;
      is_text = subst IsAtomText (append_assoc bytes more c.more) c.is_text;
    }) in
    absurd cc
hopeless n bytes more h lt never (says_text l t e) =
    let split : take n (bytes ++ more) ≡ bytes ++ take (n - length bytes) more =
    ap (λ (k : ℕ). take k (bytes ++ more)) (let k : n ≡ length bytes + (n - length bytes) = omega arith in k)
    ∙ take-append-add bytes more (n - length bytes) in
    let k : may_become_text n bytes ≡ true =
    completed n bytes lt (record {
      more = take (n - length bytes) more;
      len = ap length (sym split) ∙ omega (arith, length-take n (bytes ++ more));
      is_text = subst IsAtomText split (IsAtomText-from (take n (bytes ++ more)) t);
    }) in
    absurd cc

bad : (n : ℕ) (bytes more : List ℕ) → n ≤ length bytes → is_atom_text (take n bytes) ≡ false
    → Says n (bytes ++ more) (read_text n (bytes ++ more)) → read_text n (bytes ++ more) ≡ Err Malformed
bad n bytes more le never (says_hopeless l m e) = e
bad n bytes more le never (says_bad l t e) = e
bad n bytes more le never (says_cut l m e) = absurd (omega (arith, length-append bytes more))
bad n bytes more le never (says_text l t e) =
    let same : take n (bytes ++ more) ≡ take n bytes = take-append-le n bytes more le in
    let k : is_atom_text (take n bytes) ≡ true = ap is_atom_text (sym same) ∙ t in absurd cc

text_stable : (n : ℕ) (bytes more : List ℕ) (e : TermError) → AreBytes bytes → e ≢ Cut → Says n bytes (read_text n bytes)
    → read_text n bytes ≡ Err e → read_text n (bytes ++ more) ≡ Err e
text_stable n bytes more e h c (says_cut l m r) eq = let same : Err e ≡ Err Cut = sym eq ∙ r in absurd (c cc)
text_stable n bytes more e h c (says_text l t r) eq = absurd cc
text_stable n bytes more e h c (says_hopeless l m r) eq = hopeless n bytes more h l m (says n (bytes ++ more)) ∙ cc
text_stable n bytes more e h c (says_bad l t r) eq = bad n bytes more l t (says n (bytes ++ more)) ∙ cc

text_goes_on : (n : ℕ) (bytes : List ℕ) → AreBytes bytes → Says n bytes (read_text n bytes) → read_text n bytes ≡ Err Cut
    → Begins (IsText n) bytes
text_goes_on n bytes h (says_hopeless l m r) eq = absurd cc
text_goes_on n bytes h (says_bad l t r) eq = absurd cc
text_goes_on n bytes h (says_text l t r) eq = absurd cc
text_goes_on n bytes h (says_cut l m r) eq =
    let c = completes n bytes l m in
    record { value = bytes ++ c.more; more = c.more; is_text = record { same = refl; len = c.len; is_text = c.is_text } }

text_starts : (n : ℕ) (e : TermError) → n ≤ 1020 → Says n [] (read_text n []) → read_text n [] ≡ Err e → e ≡ Cut
text_starts n e le (says_cut l m r) eq = cc
text_starts n e le (says_hopeless l m r) eq = let k = empty_may n le in absurd cc
text_starts n e le (says_text l t r) eq = absurd cc
text_starts n e le (says_bad l t r) eq =
    let none : take n [] ≡ [] = take_all {A = ℕ} n [] (omega arith) in
    let k : is_atom_text (take n []) ≡ true = rw none nothing_is_text in
    absurd cc

pub Reads-text : (n : ℕ) → n ≤ 1020 → Reads (IsText n) (read_text n)
Reads-text n le = record {
  takes = λ bytes a rest h e. text_takes n bytes a rest (says n bytes) e;
  again = text_again n;
  stable = λ bytes more e h c k. text_stable n bytes more e h c (says n bytes) k;
  goes_on = λ bytes h e. text_goes_on n bytes h (says n bytes) e;
  starts = λ e k. text_starts n e le (says n []) k;
}
