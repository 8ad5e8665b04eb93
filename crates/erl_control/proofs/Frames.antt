-- What is due to bytes, body by body.
use Rattle.erl_term.proofs.Behind.{zero_is}
use Rattle.std.proofs.Common.{◌≡◌, ◌≢◌, ℕ, zero, suc, ◌+◌, ◌≤◌, List, [], ◌∷◌, ◌++◌, length, take, drop, Option, Some}
use Rattle.std.proofs.Common.{None, Result, Ok, Err, refl, sym, ap, subst, ◌∙◌, ◌⊎◌, append_assoc, arith, inl, inr}
use Rattle.std.proofs.lemmas.Bool.{cases_lt}
use Rattle.std.proofs.lemmas.List.{take_at, drop_at, take-append-drop, length-append, length-take, length-drop, append-nil}
use Rattle.byteorder.specs.Endian.{big_number}
use Rattle.readers.specs.Reading.{AreBytes}
use Rattle.readers.proofs.Sequence.{AreBytes-rest}
use Rattle.readers.proofs.Places.{AreBytes-front}
use Rattle.std.specs.Prelude.{IfOk, IfErr}
use Rattle.erl_term.specs.Spelling.{IsNumber}
use Rattle.erl_control.specs.declared.signal.Signal.{Signal}
use Rattle.erl_control.specs.declared.signal.Item.{Item}
use Rattle.erl_control.specs.declared.signal.Item.TheVariants.{Tick, Signal as SignalItem}
use Rattle.erl_control.specs.declared.error.FrameError.{FrameError}
use Rattle.erl_control.specs.declared.error.FrameError.TheVariants.{NotPassThrough, BadControl, TooLong, Term, OutOfMemory}
use Rattle.erl_control.specs.Frame.{limit, IsFramed}
use Rattle.erl_control.specs.Answer.{HasBody, IsBegun, IsLong, IsFrameDue}
use Rattle.erl_control.specs.Reading.{IsTextFault, IsFitText, IsBody, IsBodyFault}
use Rattle.erl_control.proofs.Same.{same_or_not}
use Rattle.erl_control.proofs.Texts.{OneTerm, OneSpelling, IsTextDue, text_due, text_once, some_text, one_text}

-- one answer is due to a text
pub due_to_text : OneTerm → OneSpelling → (text : List ℕ) (x y : Result Signal FrameError) → AreBytes text
    → length text ≤ limit → IsTextDue text x → IsTextDue text y → x ≡ y
due_to_text term one text x y h le p q = text_once term one text h le x y (text_due text x p) (text_due text y q)

-- ---- bodies

-- what is due to a body, by what it begins with
pub data BodyDue (body : List ℕ) (x : Result Item FrameError) : Type 0 where
  tick : body ≡ [] → x ≡ Ok Tick → BodyDue body x
  other : (first : ℕ) (text : List ℕ) → body ≡ first ∷ text → first ≢ 112 → x ≡ Err NotPassThrough → BodyDue body x
  signal : (text : List ℕ) (s : Signal) → body ≡ 112 ∷ text → IsFitText s text → x ≡ Ok (SignalItem s) → BodyDue body x
  fault : (text : List ℕ) (e : FrameError) → body ≡ 112 ∷ text → IsTextFault text e → x ≡ Err e → BodyDue body x

pub body_ok : (body : List ℕ) (item : Item) → IsBody item body → BodyDue body (Ok item)
body_ok body Tick p = tick p refl
body_ok body (SignalItem s) p = signal p.0 s p.1 p.2 refl

pub body_err : (body : List ℕ) (e : FrameError) → IsBodyFault body e → BodyDue body (Err e)
body_err body NotPassThrough p = other p.0 p.1 p.2 p.3 refl
body_err body (Term e) p = fault p.0 (Term e) p.1 p.2 refl
body_err body BadControl p = fault p.0 BadControl p.1 p.2 refl
body_err body TooLong p = fault p.0 TooLong p.1 p.2 refl
body_err body OutOfMemory p = absurd p

abbrev tail_of : List ℕ → List ℕ
tail_of [] = []
tail_of (x ∷ xs) = xs

pub body_once : OneTerm → OneSpelling → (body : List ℕ) (x y : Result Item FrameError) → AreBytes body → length body ≤ limit
    → BodyDue body x → BodyDue body y → x ≡ y
body_once term one body x y h le p q = by p q
  where
    fits : (text : List ℕ) → body ≡ 112 ∷ text → AreBytes text
    fits text e = AreBytes-rest (112 ∷ []) text (subst AreBytes e h)

    short : (text : List ℕ) → body ≡ 112 ∷ text → length text ≤ limit
    short text e = let l = ap length e in omega arith

    same : (a b : List ℕ) → body ≡ 112 ∷ a → body ≡ 112 ∷ b → b ≡ a
    same a b p q = ap tail_of (sym q ∙ p)

    item_of : (s r : Signal) (a : List ℕ) → body ≡ 112 ∷ a → IsFitText s a → IsFitText r a → s ≡ r
    item_of s r a e p q = let k = due_to_text term one a (Ok s) (Ok r) (fits a e) (short a e) p q in cc

    never : (s : Signal) (e : FrameError) (a : List ℕ) → body ≡ 112 ∷ a → IsFitText s a → IsTextFault a e → ⊥
    never s e a m p q = let k = due_to_text term one a (Ok s) (Err e) (fits a m) (short a m) p q in cc

    fault_of : (e f : FrameError) (a : List ℕ) → body ≡ 112 ∷ a → IsTextFault a e → IsTextFault a f → e ≡ f
    fault_of e f a m p q = let k = due_to_text term one a (Err e) (Err f) (fits a m) (short a m) p q in cc

    by : BodyDue body x → BodyDue body y → x ≡ y
    by (tick e p) (tick f q) = p ∙ sym q
    by (tick e p) (other k a f n q) = absurd (let l = sym e ∙ f in cc)
    by (tick e p) (signal a s f c q) = absurd (let l = sym e ∙ f in cc)
    by (tick e p) (fault a g f c q) = absurd (let l = sym e ∙ f in cc)
    by (other k a e n p) (tick f q) = absurd (let l = sym e ∙ f in cc)
    by (other k a e n p) (other j b f m q) = p ∙ sym q
    by (other k a e n p) (signal b s f c q) = absurd (n (let l = sym e ∙ f in cc))
    by (other k a e n p) (fault b g f c q) = absurd (n (let l = sym e ∙ f in cc))
    by (signal a s e c p) (tick f q) = absurd (let l = sym e ∙ f in cc)
    by (signal a s e c p) (other j b f m q) = absurd (m (let l = sym e ∙ f in cc))
    by (signal a s e c p) (signal b r f d q) =
        p ∙ ap (λ (z : Signal). Ok (SignalItem z)) (item_of s r a e c (subst (IsFitText r) (same a b e f) d)) ∙ sym q
    by (signal a s e c p) (fault b g f d q) = absurd (never s g a e c (subst (λ w. IsTextFault w g) (same a b e f) d))
    by (fault a g e c p) (tick f q) = absurd (let l = sym e ∙ f in cc)
    by (fault a g e c p) (other j b f m q) = absurd (m (let l = sym e ∙ f in cc))
    by (fault a g e c p) (signal b r f d q) = absurd (never r g b f d (subst (λ w. IsTextFault w g) (same b a f e) c))
    by (fault a g e c p) (fault b i f d q) =
        p ∙ ap (λ (z : FrameError). Err z) (fault_of g i a e c (subst (λ w. IsTextFault w i) (same a b e f) d)) ∙ sym q

-- ---- frames

big_four : (len rest : List ℕ) → length len ≡ 4 → big_number 4 (len ++ rest) ≡ big_number 4 len
big_four (a ∷ b ∷ c ∷ d ∷ []) rest e = refl
big_four _ rest e = absurd (omega arith)

zeros_are : IsNumber 4 0 (0 ∷ 0 ∷ 0 ∷ 0 ∷ [])
zeros_are = record { len = refl; bytes = fits; says = refl }
  where
    fits : AreBytes (0 ∷ 0 ∷ 0 ∷ 0 ∷ [])
    fits (suc (suc (suc zero))) = omega arith
    fits _ = omega arith

-- where a body stands
pub record Placed (bytes body : List ℕ) : Type 0 where
  pub says : big_number 4 bytes ≡ length body
  pub within : 4 + length body ≤ length bytes
  pub is_body : body ≡ take (length body) (drop 4 bytes)

pub placed : (bytes body : List ℕ) → HasBody bytes body → Placed bytes body
placed bytes body b =
    let n = b.number.len in
    record {
      says = ap (big_number 4) b.parts ∙ big_four b.len (body ++ b.rest) n ∙ b.number.says;
      within = let l = ap length b.parts in omega (arith, length-append b.len (body ++ b.rest), length-append body b.rest);
      is_body = sym (take_at body b.rest (length body) refl)
          ∙ ap (take (length body)) (sym (ap (drop 4) b.parts ∙ drop_at b.len (body ++ b.rest) 4 n));
    }

one_body : (bytes a b : List ℕ) → HasBody bytes a → HasBody bytes b → a ≡ b
one_body bytes a b p q =
    let x = placed bytes a p in let y = placed bytes b q in
    x.is_body ∙ ap (λ (n : ℕ). take n (drop 4 bytes)) (sym x.says ∙ y.says) ∙ sym y.is_body

body_fits : (bytes body : List ℕ) → AreBytes bytes → HasBody bytes body → AreBytes body
body_fits bytes body h b = AreBytes-front body b.rest (AreBytes-rest b.len (body ++ b.rest) (subst AreBytes b.parts h))

abbrev pub framed : ℕ → Result Item FrameError → Result (Option (Item × ℕ)) FrameError
framed n (Ok i) = Ok (Some (i, n + 4))
framed n (Err e) = Err e

abbrev given : Item → ℕ → Result (Option (Item × ℕ)) FrameError
given i n = Ok (Some (i, n))

-- what is due to bytes, by how far they go
pub data Due (bytes : List ℕ) (x : Result (Option (Item × ℕ)) FrameError) : Type 0 where
  begun : IsBegun bytes → x ≡ Ok None → Due bytes x
  long : IsLong bytes → x ≡ Err TooLong → Due bytes x
  whole : (body : List ℕ) (a : Result Item FrameError) → HasBody bytes body → BodyDue body a → x ≡ framed (length body) a → Due bytes x

not_begun : (bytes body : List ℕ) → IsBegun bytes → HasBody bytes body → ⊥
not_begun bytes body (inl lt) b = let p = placed bytes body b in omega arith
not_begun bytes body (inr x) b = let p = placed bytes body b in omega arith

not_long : (bytes body : List ℕ) → IsLong bytes → HasBody bytes body → ⊥
not_long bytes body x b = let p = placed bytes body b in let s = b.short in omega arith

begun_not_long : (bytes : List ℕ) → IsBegun bytes → IsLong bytes → ⊥
begun_not_long bytes (inl lt) x = omega arith
begun_not_long bytes (inr y) x = omega arith

pub due_once : OneTerm → OneSpelling → (bytes : List ℕ) (x y : Result (Option (Item × ℕ)) FrameError) → AreBytes bytes
    → Due bytes x → Due bytes y → x ≡ y
due_once term one bytes x y h (begun b p) (begun c q) = p ∙ sym q
due_once term one bytes x y h (begun b p) (long c q) = absurd (begun_not_long bytes b c)
due_once term one bytes x y h (begun b p) (whole body a c d q) = absurd (not_begun bytes body b c)
due_once term one bytes x y h (long b p) (begun c q) = absurd (begun_not_long bytes c b)
due_once term one bytes x y h (long b p) (long c q) = p ∙ sym q
due_once term one bytes x y h (long b p) (whole body a c d q) = absurd (not_long bytes body b c)
due_once term one bytes x y h (whole body a b d p) (begun c q) = absurd (not_begun bytes body c b)
due_once term one bytes x y h (whole body a b d p) (long c q) = absurd (not_long bytes body c b)
due_once term one bytes x y h (whole body a b d p) (whole other_body c e f q) =
    let same = one_body bytes other_body body e b in
    let moved : BodyDue body c = subst (λ w. BodyDue w c) same f in
    let answers : a ≡ c = body_once term one body a c (body_fits bytes body h b) b.short d moved in
    p ∙ ap (λ z. framed (length body) z) answers ∙ ap (λ (w : List ℕ). framed (length w) c) (sym same) ∙ sym q

-- the same as the words of the definition
front_body : (bytes : List ℕ) (n : ℕ) (len body : List ℕ) → n ≤ length bytes → IsNumber 4 (length body) len
    → length body ≤ limit → take n bytes ≡ len ++ body → HasBody bytes body × (n ≡ length body + 4)
front_body bytes n len body le k s e = (
  record {
    len = len;
    rest = drop n bytes;
    number = k;
    short = s;
    parts = sym (take-append-drop n bytes) ∙ ap (λ (w : List ℕ). w ++ drop n bytes) e ∙ append_assoc len body (drop n bytes);
  },
  (let l = ap length e in let m = k.len in omega (arith, length-take n bytes, length-append len body)),
)

pub due_from : (bytes : List ℕ) (x : Result (Option (Item × ℕ)) FrameError) → IsFrameDue bytes x → Due bytes x
due_from bytes (Ok None) d = begun d refl
due_from bytes (Ok (Some (Tick, n))) d =
    let f = front_body bytes n (0 ∷ 0 ∷ 0 ∷ 0 ∷ []) [] d.0 zeros_are (omega arith) d.1 in
    whole [] (Ok Tick) f.0 (tick refl refl) (ap (given Tick) f.1)
due_from bytes (Ok (Some (SignalItem s, n))) d =
    let b = d.1 in
    let f = front_body bytes n b.len (112 ∷ b.text) d.0 b.number b.short b.bytes in
    whole (112 ∷ b.text) (Ok (SignalItem s)) f.0 (signal b.text s refl (b.is_text, b.fit) refl) (ap (given (SignalItem s)) f.1)
due_from bytes (Err TooLong) (inl d) = long d refl
due_from bytes (Err TooLong) (inr d) = whole (112 ∷ d.0) (Err TooLong) d.1 (fault d.0 TooLong refl d.2 refl) refl
due_from bytes (Err NotPassThrough) d = whole (d.0 ∷ d.1) (Err NotPassThrough) d.2 (other d.0 d.1 refl d.3 refl) refl
due_from bytes (Err (Term e)) d = whole (112 ∷ d.0) (Err (Term e)) d.1 (fault d.0 (Term e) refl d.2 refl) refl
due_from bytes (Err BadControl) d = whole (112 ∷ d.0) (Err BadControl) d.1 (fault d.0 BadControl refl d.2 refl) refl
due_from bytes (Err OutOfMemory) d = absurd d

pub frame_once : OneTerm → OneSpelling → (bytes : List ℕ) (x y : Result (Option (Item × ℕ)) FrameError) → AreBytes bytes
    → IsFrameDue bytes x → IsFrameDue bytes y → x ≡ y
frame_once term one bytes x y h p q = due_once term one bytes x y h (due_from bytes x p) (due_from bytes y q)

take_body : (bytes body : List ℕ) (b : HasBody bytes body) → take (length body + 4) bytes ≡ b.len ++ body
take_body bytes body b =
    let n = b.number.len in
    let e : length (b.len ++ body) ≡ length body + 4 = omega (arith, length-append b.len body) in
    ap (take (length body + 4)) (b.parts ∙ sym (append_assoc b.len body b.rest)) ∙ take_at (b.len ++ body) b.rest (length body + 4) e

pub item_due : (bytes body : List ℕ) (item : Item) → HasBody bytes body → IsBody item body
    → IsFrameDue bytes (Ok (Some (item, length body + 4)))
item_due bytes body Tick b p =
    let w = (placed bytes body b).within in
    let l : length body ≡ 0 = ap length p in (
      omega arith,
      take_body bytes body b ∙ ap (λ (w : List ℕ). b.len ++ w) p ∙ append-nil b.len
          ∙ zero_is b.len (subst (λ (n : ℕ). IsNumber 4 n b.len) l b.number),
    )
item_due bytes body (SignalItem s) b p =
    let w = (placed bytes body b).within in
    let l : length body ≡ suc (length p.0) = ap length p.1 in
    let short = b.short in (
      omega arith,
      record {
        len = b.len;
        text = p.0;
        is_text = p.2.0;
        fit = p.2.1;
        number = subst (λ (n : ℕ). IsNumber 4 n b.len) l b.number;
        short = omega arith;
        bytes = take_body bytes body b ∙ ap (λ (w : List ℕ). b.len ++ w) p.1;
      },
    )

pub fault_due : (bytes body : List ℕ) (e : FrameError) → HasBody bytes body → IsBodyFault body e → IsFrameDue bytes (Err e)
fault_due bytes body NotPassThrough b p = (p.0, p.1, subst (HasBody bytes) p.2 b, p.3)
fault_due bytes body (Term e) b p = (p.0, subst (HasBody bytes) p.1 b, p.2)
fault_due bytes body BadControl b p = (p.0, subst (HasBody bytes) p.1 b, p.2)
fault_due bytes body TooLong b p = inr (p.0, subst (HasBody bytes) p.1 b, p.2)
fault_due bytes body OutOfMemory b p = absurd p

-- ---- to any bytes an answer is due

abbrev Some_due : List ℕ → Type 0
Some_due bytes = (due : Result (Option (Item × ℕ)) FrameError) × IsFrameDue bytes due

abbrev IsBodyDue : List ℕ → Result Item FrameError → Type 0
IsBodyDue body (Ok i) = IsBody i body
IsBodyDue body (Err e) = IsBodyFault body e

in_body : (text : List ℕ) (a : Result Signal FrameError) → IsTextDue text a → (b : Result Item FrameError) × IsBodyDue (112 ∷ text) b
in_body text (Ok s) c = (Ok (SignalItem s), (text, refl, c))
in_body text (Err (Term e)) c = (Err (Term e), (text, refl, c))
in_body text (Err BadControl) c = (Err BadControl, (text, refl, c))
in_body text (Err TooLong) c = (Err TooLong, (text, refl, c))
in_body text (Err NotPassThrough) c = absurd c
in_body text (Err OutOfMemory) c = absurd c

some_body : OneTerm → (body : List ℕ) → AreBytes body → (b : Result Item FrameError) × IsBodyDue body b
some_body one [] h = (Ok Tick, refl)
some_body one (first ∷ text) h =
    elim (same_or_not first 112) [
      | inr n ↦ (Err NotPassThrough, (first, text, refl, n))
      | inl e ↦
          let t = some_text one text (AreBytes-rest (first ∷ []) text h) in
          let b = in_body text t.0 t.1 in
          (b.0, subst (λ (x : ℕ). IsBodyDue (x ∷ text) b.0) (sym e) b.1)
    ]

whole_due : (bytes body : List ℕ) (b : Result Item FrameError) → HasBody bytes body → IsBodyDue body b → Some_due bytes
whole_due bytes body (Ok i) h d = (Ok (Some (i, length body + 4)), item_due bytes body i h d)
whole_due bytes body (Err e) h d = (Err e, fault_due bytes body e h d)

whole_body : (bytes : List ℕ) → AreBytes bytes → 4 ≤ length bytes → big_number 4 bytes ≤ limit
    → 4 + big_number 4 bytes ≤ length bytes → HasBody bytes (take (big_number 4 bytes) (drop 4 bytes))
whole_body bytes h le short within =
    let n = big_number 4 bytes in
    let len : length (take n (drop 4 bytes)) ≡ n = omega (arith, length-take n (drop 4 bytes), length-drop 4 bytes) in
    let four : length (take 4 bytes) ≡ 4 = omega (arith, length-take 4 bytes) in
    let split = sym (take-append-drop 4 bytes) in
    record {
      len = take 4 bytes;
      rest = drop n (drop 4 bytes);
      number = record {
        len = four;
        bytes = AreBytes-front (take 4 bytes) (drop 4 bytes) (subst AreBytes split h);
        says = sym (ap (big_number 4) split ∙ big_four (take 4 bytes) (drop 4 bytes) four) ∙ sym len;
      };
      short = omega arith;
      parts = split ∙ ap (λ (w : List ℕ). take 4 bytes ++ w) (sym (take-append-drop n (drop 4 bytes)));
    }

pub some_due : OneTerm → (bytes : List ℕ) → AreBytes bytes → Some_due bytes
some_due one bytes h =
    elim (cases_lt (length bytes) 4) [
      | inl lt ↦ (Ok None, inl lt)
      | inr le ↦
          elim (cases_lt limit (big_number 4 bytes)) [
            | inl lt ↦ (Err TooLong, inl (le, lt))
            | inr short ↦
                elim (cases_lt (length bytes) (4 + big_number 4 bytes)) [
                  | inl lt ↦ (Ok None, inr (short, lt))
                  | inr within ↦
                      let b = whole_body bytes h le short within in
                      let a = some_body one (take (big_number 4 bytes) (drop 4 bytes)) (body_fits bytes _ h b) in
                      whole_due bytes _ a.0 b a.1
                ]
          ]
    ]

-- ---- no frame begins another

-- a frame as a body behind its length
record Made (i : Item) (a : List ℕ) : Type 0 where
  len : List ℕ
  body : List ℕ
  number : IsNumber 4 (length body) len
  parts : a ≡ len ++ body
  carries : IsBody i body

made : (i : Item) (a : List ℕ) → IsFramed i a → Made i a
made Tick a f = record { len = 0 ∷ 0 ∷ 0 ∷ 0 ∷ []; body = []; number = zeros_are; parts = f; carries = refl }
made (SignalItem s) a f = record {
  len = f.len;
  body = 112 ∷ f.text;
  number = f.number;
  parts = f.bytes;
  carries = (f.text, refl, (f.is_text, f.fit));
}

bodies_say : OneSpelling → (i j : Item) (body : List ℕ) → IsBody i body → IsBody j body → i ≡ j
bodies_say one Tick Tick body p q = refl
bodies_say one Tick (SignalItem r) body p q = absurd (let e = sym p ∙ q.1 in cc)
bodies_say one (SignalItem s) Tick body p q = absurd (let e = sym q ∙ p.1 in cc)
bodies_say one (SignalItem s) (SignalItem r) body p q =
    let e : p.0 ≡ q.0 = ap tail_of (sym p.1 ∙ q.1) in
    let k = one_text one s r p.0 p.0 q.0 [] [] p.2.0 q.2.0 (sym (append-nil p.0)) (e ∙ sym (append-nil q.0)) in
    ap (λ (z : Signal). SignalItem z) k.0

pub one_made : OneSpelling → (i j : Item) (a b x y : List ℕ) → IsFramed i a → IsFramed j b → a ++ x ≡ b ++ y → (i ≡ j) × (a ≡ b)
one_made one i j a b x y f g e =
    let m = made i a f in let n = made j b g in
    let p : a ++ x ≡ m.len ++ (m.body ++ x) = ap (λ (w : List ℕ). w ++ x) m.parts ∙ append_assoc m.len m.body x in
    let q : b ++ y ≡ n.len ++ (n.body ++ y) = ap (λ (w : List ℕ). w ++ y) n.parts ∙ append_assoc n.len n.body y in
    let all : m.len ++ (m.body ++ x) ≡ n.len ++ (n.body ++ y) = sym p ∙ e ∙ q in
    let lens : m.len ≡ n.len =
    sym (take_at m.len (m.body ++ x) 4 m.number.len) ∙ ap (take 4) all ∙ take_at n.len (n.body ++ y) 4 n.number.len in
    let tails : m.body ++ x ≡ n.body ++ y =
    sym (drop_at m.len (m.body ++ x) 4 m.number.len) ∙ ap (drop 4) all ∙ drop_at n.len (n.body ++ y) 4 n.number.len in
    let sizes : length m.body ≡ length n.body = sym m.number.says ∙ ap (big_number 4) lens ∙ n.number.says in
    let bodies : m.body ≡ n.body =
    sym (take_at m.body x (length m.body) refl) ∙ ap (take (length m.body)) tails ∙ take_at n.body y (length m.body) (sym sizes) in (
      bodies_say one i j n.body (subst (IsBody i) bodies m.carries) n.carries,
      m.parts ∙ ap (λ (w : List ℕ). w ++ m.body) lens ∙ ap (λ (w : List ℕ). n.len ++ w) bodies ∙ sym n.parts,
    )

abbrev pub OneAnswer : Type 0
OneAnswer = (bytes : List ℕ) → AreBytes bytes → (due : Result (Option (Item × ℕ)) FrameError) × IsFrameDue bytes due
    × ((other : Result (Option (Item × ℕ)) FrameError) → IsFrameDue bytes other → other ≡ due)

-- what is answered is what is due, unless memory ran out
pub only_due : OneAnswer → (bytes : List ℕ) → AreBytes bytes → (a : Result (Option (Item × ℕ)) FrameError)
    → IfOk a (λ x. IsFrameDue bytes (Ok x)) → IfErr a (λ e. e ≢ OutOfMemory → IsFrameDue bytes (Err e))
    → (due : Result (Option (Item × ℕ)) FrameError) → IsFrameDue bytes due → (a ≡ due) ⊎ (a ≡ Err OutOfMemory)
only_due one bytes h a ok err due d = by a ok err
  where
    same : (b : Result (Option (Item × ℕ)) FrameError) → IsFrameDue bytes b → (b ≡ due) ⊎ (b ≡ Err OutOfMemory)
    same b p = let u = one bytes h in inl (u.2 b p ∙ sym (u.2 due d))

    by : (b : Result (Option (Item × ℕ)) FrameError) → IfOk b (λ x. IsFrameDue bytes (Ok x))
        → IfErr b (λ e. e ≢ OutOfMemory → IsFrameDue bytes (Err e)) → (b ≡ due) ⊎ (b ≡ Err OutOfMemory)
    by (Ok x) ok err = same (Ok x) ok
    by (Err NotPassThrough) ok err = same (Err NotPassThrough) (err (λ e. cc))
    by (Err BadControl) ok err = same (Err BadControl) (err (λ e. cc))
    by (Err TooLong) ok err = same (Err TooLong) (err (λ e. cc))
    by (Err (Term t)) ok err = same (Err (Term t)) (err (λ e. cc))
    by (Err OutOfMemory) ok err = inr refl
