-- The answer of the reader from the left is the answer that is due.
use Rattle.std.proofs.Common.{◌≡◌, ◌≢◌, ℕ, ◌+◌, ◌-◌, ◌<◌, ◌≤◌, Bool, true, false, cond, ltb, List, [], ◌∷◌, ◌++◌, length}
use Rattle.std.proofs.Common.{take, drop, Result, Ok, Err, refl, sym, ap, subst, ◌∙◌, append_assoc, arith, inl, inr}
use Rattle.std.proofs.lemmas.Bool.{ltb-false, ltb-true, le-ltb, lt-ltb}
use Rattle.std.proofs.lemmas.List.{take_at, take-append-drop, length-append, length-drop}
use Rattle.erl_term.specs.declared.error.TermError.{TermError}
use Rattle.erl_term.specs.declared.error.TermError.TheVariants.{Cut, Malformed, OutOfProfile, TooDeep, TooLong, OutOfMemory}
use Rattle.erl_term.specs.Numbers.{AreBytes}
use Rattle.erl_term.specs.Data.{Data}
use Rattle.erl_term.specs.Spelling.{IsSpelling}
use Rattle.erl_term.specs.Faults.{IsInside, IsAtFront, HasFault}
use Rattle.std.specs.Prelude.{IsErrOf, IfOk, IfErr}
use Rattle.erl_term.specs.declared.term.Term.{Term}
use Rattle.erl_term.specs.Reading.{read_spelling}
use Rattle.erl_term.specs.Answer.{limit, IsDue}
use Rattle.erl_term.specs.Limited.{limited, answer_at, taken_of}
use Rattle.erl_term.specs.Skipping.{rest_of}
use Rattle.erl_term.proofs.Readers.{AreBytes-rest, Known, known, is_ok, is_err, cut_or}
use Rattle.erl_term.proofs.Table.{Reads-spelling}
use Rattle.readers.proofs.Places as position
use Rattle.erl_term.proofs.WhyRows.{Explains-spelling, kind_of}
use Rattle.erl_term.proofs.FaultKinds.{kind_is, kind_answer}
use Rattle.erl_term.proofs.Errors.{IsReadError, read_error}

pub rest_short : (bytes : List ℕ) (t : Data) (rest : List ℕ) → AreBytes bytes → read_spelling bytes ≡ Ok (t, rest)
    → length rest ≤ length bytes
rest_short bytes t rest h e =
    let k = Reads-spelling.takes bytes t rest h e in let l = ap length k.parts in omega (arith, length-append k.text rest)

-- where the reader is cut the bytes end inside a spelling
pub cut_inside : (bytes : List ℕ) → AreBytes bytes → read_spelling bytes ≡ Err Cut → IsInside 64 bytes
cut_inside bytes h e = record {
  begins = Reads-spelling.goes_on bytes h e;
  open_end = position.cut_open cut_or (IsSpelling 64) read_spelling Reads-spelling bytes e;
}

-- and nowhere else
pub inside_cut : (bytes : List ℕ) → AreBytes bytes → IsInside 64 bytes → read_spelling bytes ≡ Err Cut
inside_cut bytes h i = position.inside_is_cut cut_or (IsSpelling 64) read_spelling Reads-spelling bytes h i.begins i.open_end

last_byte : (front : List ℕ) (byte : ℕ) → AreBytes (front ++ byte ∷ []) → byte < 256
last_byte front byte h = AreBytes-rest front (byte ∷ []) h 0

-- any other error is a first fault
pub fault_first : (bytes : List ℕ) (e : TermError) → AreBytes bytes → read_spelling bytes ≡ Err e → e ≢ Cut → HasFault bytes e
fault_first bytes e h err not =
    let f = position.fails_at cut_or (IsSpelling 64) read_spelling Reads-spelling bytes e h err not in
    let split = f.parts ∙ sym (append_assoc f.front (f.byte ∷ []) f.rest) in
    let fits : AreBytes (f.front ++ f.byte ∷ []) = position.AreBytes-front (f.front ++ f.byte ∷ []) f.rest (subst AreBytes split h) in
    let front_fits : AreBytes f.front = position.AreBytes-front f.front (f.byte ∷ []) fits in
    record {
      front = f.front;
      byte = f.byte;
      first = record {
        rest = f.rest;
        parts = f.parts;
        inside = cut_inside f.front front_fits f.before;
        stops = λ b. position.begins_none cut_or (IsSpelling 64) read_spelling Reads-spelling (f.front ++ f.byte ∷ []) e fits f.after not b;
      };
      why = kind_is f.front f.byte e fits (last_byte f.front f.byte fits) not f.after
          (kind_of f.front f.byte e (Explains-spelling.why f.front f.byte e fits not f.before f.after fits));
    }

-- and each first fault is an error of its kind
pub fault_answer : (bytes : List ℕ) (kind : TermError) → AreBytes bytes → HasFault bytes kind → read_spelling bytes ≡ Err kind
fault_answer bytes kind h w =
    let f = w.first in
    let split = f.parts ∙ sym (append_assoc w.front (w.byte ∷ []) f.rest) in
    let fits : AreBytes (w.front ++ w.byte ∷ []) = position.AreBytes-front (w.front ++ w.byte ∷ []) f.rest (subst AreBytes split h) in
    let front_fits : AreBytes w.front = position.AreBytes-front w.front (w.byte ∷ []) fits in
    let k =
    position.fault_fails cut_or
    (IsSpelling 64) read_spelling Reads-spelling w.front w.byte fits f.inside.begins f.inside.open_end f.stops in
    let before = inside_cut w.front front_fits f.inside in
    let same : k.0 ≡ kind =
    kind_answer w.front w.byte k.0 kind fits (last_byte w.front w.byte fits) k.1 k.2
    (kind_of w.front w.byte k.0 (Explains-spelling.why w.front w.byte k.0 fits k.1 before k.2 fits)) w.why in
    ap read_spelling split ∙ Reads-spelling.stable (w.front ++ w.byte ∷ []) f.rest k.0 fits k.1 k.2 ∙ ap (λ (e : TermError). Err e) same

-- what is read stands at the front, and takes the bytes that are gone
pub read_front : (bytes : List ℕ) (t : Data) (rest : List ℕ) → AreBytes bytes → read_spelling bytes ≡ Ok (t, rest)
    → IsAtFront bytes t (length bytes - length rest)
read_front bytes t rest h e =
    let k = Reads-spelling.takes bytes t rest h e in
    let l : length bytes ≡ length k.text + length rest = ap length k.parts ∙ length-append k.text rest in
    let n : length bytes - length rest ≡ length k.text = omega arith in
    let front : take (length bytes - length rest) bytes ≡ k.text =
    ap (take (length bytes - length rest)) k.parts ∙ take_at k.text rest (length bytes - length rest) (sym n) in
    record { within = omega arith; is_text = subst (IsSpelling 64 t) (sym front) k.is_text }

-- and what stands there is read
pub front_read : (bytes : List ℕ) (t : Data) (n : ℕ) → IsAtFront bytes t n → read_spelling bytes ≡ Ok (t, drop n bytes)
front_read bytes t n f = ap read_spelling (sym (take-append-drop n bytes)) ∙ Reads-spelling.again t (take n bytes) (drop n bytes) f.is_text

due_ok : (bytes : List ℕ) (x : Data × List ℕ) (b : Bool) → AreBytes bytes → read_spelling bytes ≡ Ok x
    → ltb limit (length bytes - length x.1) ≡ b → IsDue bytes (cond b (Err TooLong) (Ok (x.0, length bytes - length x.1)))
due_ok bytes x true h e l = inr (x.0, length bytes - length x.1, ltb-true limit (length bytes - length x.1) l, read_front bytes x.0 x.1 h e)
due_ok bytes x false h e l = (read_front bytes x.0 x.1 h e, ltb-false limit (length bytes - length x.1) l)

due_cut : (bytes : List ℕ) (b : Bool) → AreBytes bytes → read_spelling bytes ≡ Err Cut → ltb limit (length bytes) ≡ b
    → IsDue bytes (cond b (Err TooLong) (Err Cut))
due_cut bytes true h e l = inl (ltb-true limit (length bytes) l, cut_inside bytes h e)
due_cut bytes false h e l = (cut_inside bytes h e, ltb-false limit (length bytes) l)

due_err : (bytes : List ℕ) (e : TermError) → AreBytes bytes → IsReadError e → read_spelling bytes ≡ Err e
    → IsDue bytes (limited (length bytes) (Err e))
due_err bytes Cut h k e = due_cut bytes _ h e refl
due_err bytes Malformed h k e = fault_first bytes Malformed h e (λ q. cc)
due_err bytes (OutOfProfile tag) h k e = fault_first bytes (OutOfProfile tag) h e (λ q. cc)
due_err bytes TooDeep h k e = fault_first bytes TooDeep h e (λ q. cc)
due_err bytes TooLong h k e = absurd k
due_err bytes OutOfMemory h k e = absurd k

due_known : (bytes : List ℕ) → AreBytes bytes → Known (read_spelling bytes) → IsDue bytes (answer_at bytes)
unfolding answer_at
due_known bytes h (is_ok x e) = rw e (due_ok bytes x _ h e refl)
due_known bytes h (is_err f e) = rw e (due_err bytes f h (read_error bytes f e) e)

-- what the reader from the left answers is due
pub answer_due : (bytes : List ℕ) → AreBytes bytes → IsDue bytes (answer_at bytes)
answer_due bytes h = due_known bytes h (known (read_spelling bytes))

-- and nothing else is
pub due_answer : (bytes : List ℕ) (a : Result (Data × ℕ) TermError) → AreBytes bytes → IsDue bytes a → answer_at bytes ≡ a
unfolding answer_at
due_answer bytes (Ok x) h d =
    let e = front_read bytes x.0 x.1 d.0 in
    let w = d.0.within in
    let n : length bytes - length (drop x.1 bytes) ≡ x.1 = omega (arith, length-drop x.1 bytes) in
    let low : ltb limit x.1 ≡ false = le-ltb limit x.1 d.1 in
    rw (e, n, low) refl
due_answer bytes (Err Cut) h d =
    let low : ltb limit (length bytes) ≡ false = le-ltb limit (length bytes) d.1 in rw (inside_cut bytes h d.0, low) refl
due_answer bytes (Err Malformed) h d = rw (fault_answer bytes Malformed h d) refl
due_answer bytes (Err (OutOfProfile tag)) h d = rw (fault_answer bytes (OutOfProfile tag) h d) refl
due_answer bytes (Err TooDeep) h d = rw (fault_answer bytes TooDeep h d) refl
due_answer bytes (Err TooLong) h (inl d) =
    let high : ltb limit (length bytes) ≡ true = lt-ltb limit (length bytes) d.0 in rw (inside_cut bytes h d.1, high) refl
due_answer bytes (Err TooLong) h (inr d) =
    let e = front_read bytes d.0 d.1 d.3 in
    let w = d.3.within in
    let n : length bytes - length (drop d.1 bytes) ≡ d.1 = omega (arith, length-drop d.1 bytes) in
    let high : ltb limit d.1 ≡ true = lt-ltb limit d.1 d.2 in
    rw (e, n, high) refl
due_answer bytes (Err OutOfMemory) h d = absurd d

pub read_due : (bytes : List ℕ) (a : Result (Data × ℕ) TermError) → AreBytes bytes → answer_at bytes ≡ a → IsDue bytes a
read_due bytes a h e = subst (IsDue bytes) e (answer_due bytes h)

pub only_read : (bytes : List ℕ) (a due : Result (Data × ℕ) TermError) → AreBytes bytes → IsDue bytes due → answer_at bytes ≡ a → due ≡ a
only_read bytes a due h d e = sym (due_answer bytes due h d) ∙ e

-- ---- with the pass that keeps no value

pub skipped_short : (bytes rest : List ℕ) → AreBytes bytes → rest_of (read_spelling bytes) ≡ Ok rest → length rest ≤ length bytes
skipped_short bytes rest h e = by (known (read_spelling bytes))
  where
    by : Known (read_spelling bytes) → length rest ≤ length bytes
    by (is_ok x k) =
        let q : rest_of (read_spelling bytes) ≡ Ok x.1 = ap rest_of k in
        let same : x.1 ≡ rest = cc in
        let l = rest_short bytes x.0 x.1 h k in
        let m = ap length same in
        omega arith
    by (is_err f k) = absurd (let q : rest_of (read_spelling bytes) ≡ Err f = ap rest_of k in cc)

scan_err : (a : Result (Data × ℕ) TermError) (e : TermError) → taken_of a ≡ Err e → a ≡ Err e
scan_err (Ok x) e h = absurd cc
scan_err (Err f) e h = let q : f ≡ e = cc in ap (λ (g : TermError). Err g) q

scan_ok : (a : Result (Data × ℕ) TermError) (n : ℕ) → taken_of a ≡ Ok n → (x : Data × ℕ) × (a ≡ Ok x)
scan_ok (Ok x) n h = (x, refl)
scan_ok (Err f) n h = absurd cc

pub scanned_due : (bytes : List ℕ) (e : TermError) → AreBytes bytes → taken_of (answer_at bytes) ≡ Err e → IsDue bytes (Err e)
scanned_due bytes e h s = subst (IsDue bytes) (scan_err (answer_at bytes) e s) (answer_due bytes h)

pub scanned_only : (bytes : List ℕ) (e : TermError) (due : Result (Data × ℕ) TermError) → AreBytes bytes
    → taken_of (answer_at bytes) ≡ Err e → IsDue bytes due → due ≡ Err e
scanned_only bytes e due h s d = sym (due_answer bytes due h d) ∙ scan_err (answer_at bytes) e s

pub scanned_term : (bytes : List ℕ) (n : ℕ) → AreBytes bytes → taken_of (answer_at bytes) ≡ Ok n → (x : Data × ℕ) × IsDue bytes (Ok x)
scanned_term bytes n h s = let x = scan_ok (answer_at bytes) n s in (x.0, subst (IsDue bytes) x.1 (answer_due bytes h))

pub memory_never : (bytes : List ℕ) (e : TermError) → IsDue bytes (Err e) → e ≡ OutOfMemory → ⊥
memory_never bytes e d q = let z : IsDue bytes (Err OutOfMemory) = subst (λ (f : TermError). IsDue bytes (Err f)) q d in z

pub is_err_of : (e : TermError) → IsErrOf {T = Term × ℕ} (Err e) OutOfMemory → e ≡ OutOfMemory
is_err_of e q = cc

pub len_due : (bytes : List ℕ) (r : Result ℕ TermError) → AreBytes bytes → taken_of (answer_at bytes) ≡ r
    → IfOk r (λ n. (t : Data) × IsDue bytes (Ok (t, n)))
len_due bytes (Err e) h s = tt
len_due bytes (Ok n) h s =
    let x = scan_ok (answer_at bytes) n s in
    let q : taken_of (answer_at bytes) ≡ Ok x.0.1 = ap taken_of x.1 in
    let same : x.0.1 ≡ n = cc in
    (x.0.0, subst (λ (m : ℕ). IsDue bytes (Ok (x.0.0, m))) same (subst (IsDue bytes) x.1 (answer_due bytes h)))

pub len_err_due : (bytes : List ℕ) (r : Result ℕ TermError) → AreBytes bytes → taken_of (answer_at bytes) ≡ r
    → IfErr r (λ e. IsDue bytes (Err e))
len_err_due bytes (Err e) h s = scanned_due bytes e h s
len_err_due bytes (Ok n) h s = tt
