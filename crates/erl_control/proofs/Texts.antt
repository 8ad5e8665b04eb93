-- What is due to the text of a signal.
use Rattle.std.proofs.Common.{◌≡◌, ◌≢◌, ℕ, ◌≤◌, Bool, true, false, List, [], ◌∷◌, ◌++◌, length, take, drop, Option, Some}
use Rattle.std.proofs.Common.{None, Result, Ok, Err, refl, sym, ap, subst, ◌∙◌, append_assoc, arith, ◌⊎◌, inl, inr}
use Rattle.std.proofs.lemmas.Bool.{cases_lt}
use Rattle.std.proofs.lemmas.List.{take_at, take-append-drop, length-append, append-nil, append_cancel_left}
use Rattle.readers.specs.Reading.{AreBytes}
use Rattle.readers.proofs.Sequence.{AreBytes-rest}
use Rattle.erl_term.specs.declared.error.TermError.{TermError}
use Rattle.std.specs.Prelude.{is_some}
use Rattle.erl_term.specs.Data.{Data}
use Rattle.erl_term.specs.Spelling.{IsSpelling}
use Rattle.erl_term.specs.Canonical.{canonical, levels_of}
use Rattle.erl_term.specs.Answer.{IsDue}
use Rattle.erl_control.specs.declared.signal.Signal.{Signal}
use Rattle.erl_control.specs.declared.signal.Signal.TheVariants.{Send, RegSend, Exit, Exit2, MonitorExit, MonitorNameExit}
use Rattle.erl_control.specs.declared.error.FrameError.{FrameError}
use Rattle.erl_control.specs.declared.error.FrameError.TheVariants.{NotPassThrough, BadControl, TooLong, Term, OutOfMemory}
use Rattle.erl_control.specs.Control.{control_in, message_in, HasId, Carries, IsFit}
use Rattle.erl_control.specs.Frame.{limit, SpellsMessage, IsSignalText}
use Rattle.erl_control.specs.Answer.{IsTermFault, IsMessageFault, IsRow, IsNoRow}
use Rattle.erl_control.specs.Reading.{IsTextFault, IsFitText}
use Rattle.erl_control.proofs.Rows.{row_tells, followed_tells, same_signal, is_row, with_message, told_signal, told_id, followed_id}

-- one answer is due to any bytes in which a term is looked for
abbrev pub OneTerm : Type 0
OneTerm = (bytes : List ℕ) → AreBytes bytes → (due : Result (Data × ℕ) TermError) × IsDue bytes due
    × ((other : Result (Data × ℕ) TermError) → IsDue bytes other → other ≡ due)

abbrev pub OneSpelling : Type 0
OneSpelling = (t u : Data) (a b x y : List ℕ) → IsSpelling 64 t a → IsSpelling 64 u b → a ++ x ≡ b ++ y → (t ≡ u) × (a ≡ b)

term_once : OneTerm → (bytes : List ℕ) → AreBytes bytes → (a b : Result (Data × ℕ) TermError) → IsDue bytes a → IsDue bytes b → a ≡ b
term_once one bytes h a b p q = let u = one bytes h in u.2 a p ∙ sym (u.2 b q)

abbrev term_ok : Data × ℕ → Result (Data × ℕ) TermError
term_ok x = Ok x

abbrev term_err : TermError → Result (Data × ℕ) TermError
term_err e = Err e

ok_not_err : (x : Data × ℕ) (e : TermError) → ¬ (term_ok x ≡ term_err e)
ok_not_err x e p = cc

same_ok : (x y : Data × ℕ) → term_ok x ≡ term_ok y → x.0 ≡ y.0
same_ok x y p = let q : x ≡ y = cc in ap (λ (z : Data × ℕ). z.0) q

same_err : (e f : TermError) → term_err e ≡ term_err f → e ≡ f
same_err e f p = cc

-- ---- a term at the front

front_due : (t : Data) (a rest : List ℕ) → IsSpelling 64 t a → length (a ++ rest) ≤ limit → IsDue (a ++ rest) (Ok (t, length a))
front_due t a rest s le =
    let l = length-append a rest in
    (record { within = omega arith; is_text = subst (IsSpelling 64 t) (sym (take_at a rest (length a) refl)) s }, omega arith)

-- where a spelling stands at the front, no error is due
never_fault : OneTerm → (t : Data) (text a rest : List ℕ) (e : TermError) → AreBytes text → length text ≤ limit
    → IsSpelling 64 t a → text ≡ a ++ rest → IsDue text (Err e) → ⊥
never_fault one t text a rest e h le s p d =
    let q = subst (λ w. IsDue w (Ok (t, length a))) (sym p) (front_due t a rest s (subst (λ w. length w ≤ limit) p le)) in
    ok_not_err (t, length a) e (term_once one text h (Ok (t, length a)) (Err e) q d)

-- and no other term
same_front : OneTerm → (t u : Data) (text a rest : List ℕ) (n : ℕ) → AreBytes text → length text ≤ limit → IsSpelling 64 t a
    → text ≡ a ++ rest → IsDue text (Ok (u, n)) → t ≡ u
same_front one t u text a rest n h le s p d =
    let q = subst (λ w. IsDue w (Ok (t, length a))) (sym p) (front_due t a rest s (subst (λ w. length w ≤ limit) p le)) in
    same_ok (t, length a) (u, n) (term_once one text h (Ok (t, length a)) (Ok (u, n)) q d)

-- ---- no signal's text begins another

messages : OneSpelling → (o p : Option Data) (m n x y : List ℕ) → SpellsMessage o m → SpellsMessage p n
    → is_some o ≡ is_some p → m ++ x ≡ n ++ y → (o ≡ p) × (m ≡ n)
messages one None None m n x y s r k e = (refl, s ∙ sym r)
messages one (Some t) (Some u) m n x y s r k e = let q = one t u m n x y s r e in (ap (λ (z : Data). Some z) q.0, q.1)
messages one None (Some u) m n x y s r k e = absurd cc
messages one (Some t) None m n x y s r k e = absurd cc

-- a text as its control term and what is behind
pub record Opened (s : Signal) (text rest : List ℕ) : Type 0 where
  pub payload : Bool
  pub unused : Data
  pub control : List ℕ
  pub message : List ℕ
  pub spelled : IsSpelling 64 (control_in unused s payload) control
  pub told : SpellsMessage (message_in s payload) message
  pub parts : text ≡ control ++ (message ++ rest)

abbrev opened : (s : Signal) (text front rest : List ℕ) → IsSignalText s front → text ≡ front ++ rest → Opened s text rest
opened s text front rest i p = record {
  payload = i.payload;
  unused = i.unused;
  control = i.control;
  message = i.message;
  spelled = i.spelled;
  told = i.told;
  parts = p ∙ ap (λ (w : List ℕ). w ++ rest) i.bytes ∙ append_assoc i.control i.message rest;
}

pub one_text : OneSpelling → (s r : Signal) (text a b x y : List ℕ) → IsSignalText s a → IsSignalText r b → text ≡ a ++ x
    → text ≡ b ++ y → (s ≡ r) × (a ≡ b)
one_text one s r text a b x y i j p q =
    let m = opened s text a x i p in
    let n = opened r text b y j q in
    let k =
    one (control_in m.unused s m.payload) (control_in n.unused r n.payload) m.control n.control (m.message ++ x)
    (n.message ++ y) m.spelled n.spelled (sym m.parts ∙ n.parts) in
    let same = row_tells m.unused n.unused s r m.payload n.payload k.0 in
    let behind : m.message ++ x ≡ n.message ++ y =
    append_cancel_left m.control (m.message ++ x) (n.message ++ y)
    (sym m.parts ∙ n.parts ∙ ap (λ (w : List ℕ). w ++ (n.message ++ y)) (sym k.1)) in
    let wants = followed_tells m.unused n.unused s r m.payload n.payload k.0 in
    let told = messages one (message_in s m.payload) (message_in r n.payload) m.message n.message x y m.told n.told wants behind in (
      same_signal s r m.payload n.payload same told.0,
      i.bytes ∙ ap (λ (w : List ℕ). w ++ m.message) k.1 ∙ ap (λ (w : List ℕ). n.control ++ w) told.1 ∙ sym j.bytes,
    )

-- ---- what is due to a text

-- a signal at the front, by what is left over and by what it carries
pub data Judged (s : Signal) (rest : List ℕ) (x : Result Signal FrameError) : Type 0 where
  left_over : rest ≢ [] → x ≡ Err BadControl → Judged s rest x
  unfit : rest ≡ [] → ¬ Carries IsFit s → x ≡ Err TooLong → Judged s rest x
  fit : rest ≡ [] → Carries IsFit s → x ≡ Ok s → Judged s rest x

judged_once : (s : Signal) (rest : List ℕ) (x y : Result Signal FrameError) → Judged s rest x → Judged s rest y → x ≡ y
judged_once s rest x y (left_over e p) (left_over f q) = p ∙ sym q
judged_once s rest x y (left_over e p) (unfit f c q) = absurd (e f)
judged_once s rest x y (left_over e p) (fit f c q) = absurd (e f)
judged_once s rest x y (unfit e b p) (left_over f q) = absurd (f e)
judged_once s rest x y (unfit e b p) (unfit f c q) = p ∙ sym q
judged_once s rest x y (unfit e b p) (fit f c q) = absurd (b c)
judged_once s rest x y (fit e b p) (left_over f q) = absurd (f e)
judged_once s rest x y (fit e b p) (unfit f c q) = absurd (c b)
judged_once s rest x y (fit e b p) (fit f c q) = p ∙ sym q

pub data TextDue (text : List ℕ) (x : Result Signal FrameError) : Type 0 where
  here : (s : Signal) (front rest : List ℕ) → IsSignalText s front → text ≡ front ++ rest → Judged s rest x → TextDue text x
  fault : (e : TermError) → IsTermFault text e → x ≡ Err (Term e) → TextDue text x
  other : IsNoRow text → x ≡ Err BadControl → TextDue text x

-- the message of a signal that has one
told_some : (o : Option Data) (m : List ℕ) → is_some o ≡ true → SpellsMessage o m → (t : Data) × IsSpelling 64 t m
told_some (Some t) m e s = (t, s)
told_some None m e s = absurd cc

module _ (term : OneTerm) (one : OneSpelling) (text : List ℕ) (h : AreBytes text) (le : length text ≤ limit) where
  message_fits : (control message : List ℕ) → text ≡ control ++ message → AreBytes message
  message_fits control message p = AreBytes-rest control message (subst AreBytes p h)

  message_short : (control message : List ℕ) → text ≡ control ++ message → length message ≤ limit
  message_short control message p = let l = ap length p in omega (arith, length-append control message)

  -- a signal's text at the front has no fault
  no_message_fault : (s : Signal) (e : TermError) (rest : List ℕ) → Opened s text rest → IsMessageFault text e → ⊥
  no_message_fault s e rest o f =
      let k =
      one (control_in o.unused s o.payload) (control_in f.unused f.signal f.payload) o.control f.control
      (o.message ++ rest) f.message o.spelled f.spelled (sym o.parts ∙ f.parts) in
      let wants = followed_tells o.unused f.unused s f.signal o.payload f.payload k.0 in
      let behind : f.message ≡ o.message ++ rest =
      append_cancel_left f.control f.message (o.message ++ rest)
      (sym f.parts ∙ o.parts ∙ ap (λ (w : List ℕ). w ++ (o.message ++ rest)) k.1) in
      let told = told_some (message_in s o.payload) o.message (wants ∙ f.followed) o.told in
      never_fault term told.0 f.message o.message rest e (message_fits f.control f.message f.parts)
      (message_short f.control f.message f.parts) told.1 behind f.fault

  no_fault : (s : Signal) (e : TermError) (front rest : List ℕ) → IsSignalText s front → text ≡ front ++ rest → IsTermFault text e → ⊥
  no_fault s e front rest i p (inl d) =
      let o = opened s text front rest i p in
      never_fault term (control_in o.unused s o.payload) text o.control (o.message ++ rest) e h le o.spelled o.parts d
  no_fault s e front rest i p (inr f) = no_message_fault s e rest (opened s text front rest i p) f

  is_a_row : (s : Signal) (front rest : List ℕ) → IsSignalText s front → text ≡ front ++ rest → IsNoRow text → ⊥
  is_a_row s front rest i p d =
      let o = opened s text front rest i p in
      let same = same_front term (control_in o.unused s o.payload) d.0 text o.control (o.message ++ rest) d.1 h le o.spelled o.parts d.2 in
      d.3 (s, o.payload, o.unused, i.has_id, sym same)

  -- the error of a term that doesn't read
  same_fault : (e f : TermError) → IsTermFault text e → IsTermFault text f → e ≡ f
  same_fault e f (inl d) (inl c) = same_err e f (term_once term text h (Err e) (Err f) d c)
  same_fault e f (inl d) (inr c) =
      absurd (never_fault term (control_in c.unused c.signal c.payload) text c.control c.message e h le c.spelled c.parts d)
  same_fault e f (inr d) (inl c) =
      absurd (never_fault term (control_in d.unused d.signal d.payload) text d.control d.message f h le d.spelled d.parts c)
  same_fault e f (inr d) (inr c) =
      let k =
      one (control_in d.unused d.signal d.payload) (control_in c.unused c.signal c.payload) d.control c.control d.message c.message
      d.spelled c.spelled (sym d.parts ∙ c.parts) in
      let behind : d.message ≡ c.message =
      append_cancel_left d.control d.message c.message (sym d.parts ∙ c.parts ∙ ap (λ (w : List ℕ). w ++ c.message) (sym k.1)) in
      same_err e f (term_once term c.message (message_fits c.control c.message c.parts) (Err e) (Err f)
      (subst (λ w. IsDue w (Err e)) behind d.fault) c.fault)

  fault_is_row : (e : TermError) → IsTermFault text e → IsNoRow text → ⊥
  fault_is_row e (inl d) c = ok_not_err (c.0, c.1) e (term_once term text h (Ok (c.0, c.1)) (Err e) c.2 d)
  fault_is_row e (inr d) c =
      let same = same_front term (control_in d.unused d.signal d.payload) c.0 text d.control d.message c.1 h le d.spelled d.parts c.2 in
      c.3 (d.signal, d.payload, d.unused, followed_id d.signal d.payload d.followed, sym same)

  pub text_once : (x y : Result Signal FrameError) → TextDue text x → TextDue text y → x ≡ y
  text_once x y (here s a r i p j) (here t b q k m n) =
      let same = one_text one s t text a b r q i k p m in
      let rests : r ≡ q = append_cancel_left b r q (ap (λ (w : List ℕ). w ++ r) (sym same.1) ∙ sym p ∙ m) in
      judged_once t q x y (subst (λ (z : Signal). Judged z q x) same.0 (subst (λ (w : List ℕ). Judged s w x) rests j)) n
  text_once x y (here s a r i p j) (fault e f q) = absurd (no_fault s e a r i p f)
  text_once x y (here s a r i p j) (other d q) = absurd (is_a_row s a r i p d)
  text_once x y (fault e f p) (here s a r i q j) = absurd (no_fault s e a r i q f)
  text_once x y (fault e f p) (fault g c q) = p ∙ ap (λ (z : TermError). Err (Term z)) (same_fault e g f c) ∙ sym q
  text_once x y (fault e f p) (other d q) = absurd (fault_is_row e f d)
  text_once x y (other d p) (here s a r i q j) = absurd (is_a_row s a r i q d)
  text_once x y (other d p) (fault e f q) = absurd (fault_is_row e f d)
  text_once x y (other d p) (other c q) = p ∙ sym q

-- ---- the same as the words of the definition

abbrev pub IsTextDue : List ℕ → Result Signal FrameError → Type 0
IsTextDue text (Ok s) = IsFitText s text
IsTextDue text (Err e) = IsTextFault text e

pub text_due : (text : List ℕ) (x : Result Signal FrameError) → IsTextDue text x → TextDue text x
text_due text (Ok s) d = here s text [] d.0 (sym (append-nil text)) (fit refl d.1 refl)
text_due text (Err (Term e)) d = fault e d refl
text_due text (Err BadControl) (inl d) = other d refl
text_due text (Err BadControl) (inr d) = here d.0 d.1 d.2 d.3 d.5 (left_over d.4 refl)
text_due text (Err TooLong) d = here d.0 text [] d.1 (sym (append-nil text)) (unfit refl d.2 refl)
text_due text (Err NotPassThrough) d = absurd d
text_due text (Err OutOfMemory) d = absurd d

-- ---- to any text an answer is due

abbrev SomeText : List ℕ → Type 0
SomeText text = (x : Result Signal FrameError) × IsTextDue text x

fit_or_not : (t : Data) → IsFit t ⊎ (¬ IsFit t)
fit_or_not t =
    elim (cases_lt 60 (levels_of t)) [
      | inl deep ↦ inr (λ f. let l = f.0 in omega arith)
      | inr few ↦
          elim (cases_lt 1000000 (length (canonical t))) [ inl long ↦ inr (λ f. let l = f.1 in omega arith) | inr short ↦ inl (few, short) ]
    ]

carries_or_not : (s : Signal) → Carries IsFit s ⊎ (¬ Carries IsFit s)
carries_or_not (Send p t) = fit_or_not t
carries_or_not (RegSend p n t) = fit_or_not t
carries_or_not (Exit p q t) = fit_or_not t
carries_or_not (Exit2 p q t) = fit_or_not t
carries_or_not (MonitorExit p q r t) = fit_or_not t
carries_or_not (MonitorNameExit n q r t) = fit_or_not t
carries_or_not s = inl tt

whole_text : (s : Signal) (text front : List ℕ) → IsSignalText s front → text ≡ front ++ [] → IsSignalText s text
whole_text s text front i p = subst (IsSignalText s) (sym (p ∙ append-nil front)) i

judge : (s : Signal) (text front rest : List ℕ) → IsSignalText s front → text ≡ front ++ rest
    → (Carries IsFit s ⊎ (¬ Carries IsFit s)) → SomeText text
judge s text front [] i p (inl c) = (Ok s, (whole_text s text front i p, c))
judge s text front [] i p (inr f) = (Err TooLong, (s, whole_text s text front i p, f))
judge s text front (b ∷ rest) i p c = (Err BadControl, inr (s, front, b ∷ rest, i, (λ e. cc), p))

told_none : (o : Option Data) → is_some o ≡ false → SpellsMessage o []
told_none None e = refl
told_none (Some t) e = absurd cc

-- a row at the front, and what is behind it
row_text : OneTerm → (text control rest : List ℕ) (s : Signal) (payload : Bool) (unused : Data) → AreBytes text → HasId s
    → IsSpelling 64 (control_in unused s payload) control → text ≡ control ++ rest → (b : Bool) → is_some (message_in s payload) ≡ b
    → SomeText text
row_text one text control rest s payload unused h i c p true e = by (one rest (AreBytes-rest control rest (subst AreBytes p h)))
  where
    told : (t : Data) (n : ℕ) → IsDue rest (Ok (t, n)) → SomeText text
    told t n d =
        let split = sym (take-append-drop n rest) in
        let k = told_signal s payload t unused e in
        judge (with_message s (Some t)) text (control ++ take n rest) (drop n rest)
        (record {
          payload = payload;
          unused = unused;
          control = control;
          message = take n rest;
          has_id = told_id s payload t e;
          spelled = subst (λ (u : Data). IsSpelling 64 u control) (sym k.0) c;
          told = subst (λ (o : Option Data). SpellsMessage o (take n rest)) (sym k.1) d.0.is_text;
          bytes = refl;
        })
        (p ∙ ap (λ (w : List ℕ). control ++ w) split ∙ sym (append_assoc control (take n rest) (drop n rest)))
        (carries_or_not (with_message s (Some t)))

    on : (due : Result (Data × ℕ) TermError) → IsDue rest due → SomeText text
    on (Ok x) d = told x.0 x.1 d
    on (Err f) d = (
      Err (Term f),
      inr (record
          { signal = s; payload = payload; unused = unused; control = control; message = rest; spelled = c; followed = e; fault = d; parts = p }),
    )

    by : (due : Result (Data × ℕ) TermError) × IsDue rest due
        × ((other : Result (Data × ℕ) TermError) → IsDue rest other → other ≡ due) → SomeText text
    by d = on d.0 d.1
row_text one text control rest s payload unused h i c p false e =
    judge s text control rest (record {
      payload = payload;
      unused = unused;
      control = control;
      message = [];
      has_id = i;
      spelled = c;
      told = told_none (message_in s payload) e;
      bytes = sym (append-nil control);
    }) p (carries_or_not s)

pub some_text : OneTerm → (text : List ℕ) → AreBytes text → SomeText text
some_text one text h = by (one text h)
  where
    row : (t : Data) (n : ℕ) → IsDue text (Ok (t, n)) → (IsRow t ⊎ (¬ IsRow t)) → SomeText text
    row t n d (inr free) = (Err BadControl, inl (t, n, d, free))
    row t n d (inl r) =
        row_text one text (take n text) (drop n text) r.0 r.1 r.2 h r.3
        (subst (λ (u : Data). IsSpelling 64 u (take n text)) r.4 d.0.is_text) (sym (take-append-drop n text))
        (is_some (message_in r.0 r.1)) refl

    on : (due : Result (Data × ℕ) TermError) → IsDue text due → SomeText text
    on (Ok x) d = row x.0 x.1 d (is_row x.0)
    on (Err e) d = (Err (Term e), inl d)

    by : (due : Result (Data × ℕ) TermError) × IsDue text due
        × ((other : Result (Data × ℕ) TermError) → IsDue text other → other ≡ due) → SomeText text
    by d = on d.0 d.1
