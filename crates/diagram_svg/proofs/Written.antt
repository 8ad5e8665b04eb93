-- What is written of a text, in characters, and what a reader makes of that.
use Rattle.std.proofs.Common.{◌≡◌, ℕ, Bool, true, false, eqb, cond, ◌&&◌, inl, inr, List, [], ◌∷◌, ◌++◌}
use Rattle.std.proofs.Common.{map, codes, Option, None, Some, encode_utf8, refl, sym, ap, subst, ◌∙◌, arith}
use Rattle.std.specs.List.{flat_map}
use Rattle.std.specs.Str.{chars, encode_utf8_all, all_scalars}
use Rattle.std.proofs.lemmas.Bool.{cases_Bool, cond-true, cond-false}
use Rattle.std.proofs.lemmas.Bool.Decides.{eqb_tells, nat_tests}
use Rattle.std.proofs.lemmas.List.{append-nil}
use Rattle.std.proofs.lemmas.Str.{chars-encodes, encodes-append}
use Rattle.std.proofs.Math.Utf8.{scalar, encode}
use Rattle.diagram_svg.specs.Escaping.{by_reference, escaped, escaped_text, is_allowed, reference_to, seen}
use Rattle.diagram_svg.specs.Reading.{IsText, ends, itself, reference, read_on, read_text}

-- what a reference to a character is good for
pub record Works (c : ℕ) (name : List ℕ) : Type 0 where
  pub ascii : encode_utf8_all name ≡ name
  pub scalars : all_scalars name ≡ true
  pub seen_so : seen c ≡ c
  pub read : (rest : List ℕ) → read_on (name ++ rest) None ≡ c ∷ read_on rest None

one : (k : ℕ) (x : List ℕ) (others : Option (List ℕ)) (c : ℕ) (name : List ℕ) → Works k x
    → (others ≡ Some name → Works c name) → cond (eqb c k) (Some x) others ≡ Some name → Works c name
one k x others c name w f h =
    elim (eqb_tells c k) [
      | inl t ↦ (let same : x ≡ name = cc (sym (cond-true (eqb c k) (Some x) others t.0) ∙ h) in
          subst (λ (d : ℕ). Works d name) (sym t.1) (subst (λ (n : List ℕ). Works k n) same w))
      | inr t ↦ f (sym (cond-false (eqb c k) (Some x) others t.0) ∙ h)
    ]

all_work : (c : ℕ) (name : List ℕ) → reference_to c ≡ Some name → Works c name
unfolding encode
all_work c name h =
    one 38 (codes "&amp;") _ c name (record { ascii = refl; scalars = refl; seen_so = refl; read = λ rest. refl })
    (one 60 (codes "&lt;") _ c name (record { ascii = refl; scalars = refl; seen_so = refl; read = λ rest. refl })
    (one 62 (codes "&gt;") _ c name (record { ascii = refl; scalars = refl; seen_so = refl; read = λ rest. refl })
    (one 34 (codes "&quot;") _ c name (record { ascii = refl; scalars = refl; seen_so = refl; read = λ rest. refl })
    (one 39 (codes "&apos;") _ c name (record { ascii = refl; scalars = refl; seen_so = refl; read = λ rest. refl })
    (one 9 (codes "&#9;") _ c name (record { ascii = refl; scalars = refl; seen_so = refl; read = λ rest. refl })
    (one 10 (codes "&#10;") _ c name (record { ascii = refl; scalars = refl; seen_so = refl; read = λ rest. refl })
    (one 13 (codes "&#13;") None c name (record { ascii = refl; scalars = refl; seen_so = refl; read = λ rest. refl })
    (λ (never : None ≡ Some name). cc)))))))) h

-- what is seen of a character is allowed
seen_allowed : (c : ℕ) → is_allowed (seen c) ≡ true
seen_allowed c =
    elim (cases_Bool (is_allowed c)) [
      | inl t ↦ subst (λ (d : ℕ). is_allowed d ≡ true) (sym (cond-true (is_allowed c) c 65533 t)) t
      | inr t ↦ subst (λ (d : ℕ). is_allowed d ≡ true) (sym (cond-false (is_allowed c) c 65533 t)) refl
    ]

seen_no_mark : (c : ℕ) → reference_to c ≡ None → reference_to (seen c) ≡ None
seen_no_mark c h =
    elim (cases_Bool (is_allowed c)) [
      | inl t ↦ subst (λ (d : ℕ). reference_to d ≡ None) (sym (cond-true (is_allowed c) c 65533 t)) h
      | inr t ↦ subst (λ (d : ℕ). reference_to d ≡ None) (sym (cond-false (is_allowed c) c 65533 t)) refl
    ]

-- the characters that are written of one
abbrev by_marks : Option (List ℕ) → ℕ → List ℕ
by_marks None c = seen c ∷ []
by_marks (Some name) c = name

abbrev marks : ℕ → List ℕ
marks c = by_marks (reference_to c) c

escaped_by : (o : Option (List ℕ)) (c : ℕ) → reference_to c ≡ o → by_reference o c ≡ encode_utf8_all (by_marks o c)
escaped_by None c h = sym (append-nil (encode_utf8 (seen c)))
escaped_by (Some name) c h = sym (all_work c name h).ascii

written : (cs : List ℕ) → flat_map escaped cs ≡ encode_utf8_all (flat_map marks cs)
written [] = refl
written (c ∷ cs) =
    ap (λ (text : List ℕ). text ++ flat_map escaped cs) (escaped_by (reference_to c) c refl)
    ∙ ap (λ (text : List ℕ). encode_utf8_all (marks c) ++ text) (written cs)
    ∙ sym (encodes-append (marks c) (flat_map marks cs))

-- ---- of Unicode's scalar values

scalars-append : (xs ys : List ℕ) → all_scalars xs ≡ true → all_scalars ys ≡ true → all_scalars (xs ++ ys) ≡ true
scalars-append [] ys h k = k
scalars-append (x ∷ xs) ys h k =
    elim (cases_Bool (scalar x)) [
      | inl t ↦
          ap (λ (b : Bool). b && all_scalars (xs ++ ys)) t ∙ scalars-append xs ys (sym (ap (λ (b : Bool). b && all_scalars xs) t) ∙ h) k
      | inr f ↦ (let no : false ≡ true = sym (ap (λ (b : Bool). b && all_scalars xs) f) ∙ h in cc)
    ]

allowed_scalar : (c : ℕ) → is_allowed c ≡ true → scalar c ≡ true
allowed_scalar c h = grind (arith, nat_tests)

marks_scalars : (o : Option (List ℕ)) (c : ℕ) → reference_to c ≡ o → all_scalars (by_marks o c) ≡ true
marks_scalars None c h = ap (λ (b : Bool). b && true) (allowed_scalar (seen c) (seen_allowed c))
marks_scalars (Some name) c h = (all_work c name h).scalars

all_marks_scalars : (cs : List ℕ) → all_scalars (flat_map marks cs) ≡ true
all_marks_scalars [] = refl
all_marks_scalars (c ∷ cs) = scalars-append (marks c) (flat_map marks cs) (marks_scalars (reference_to c) c refl) (all_marks_scalars cs)

chars_written : (text : List ℕ) → chars (escaped_text text) ≡ flat_map marks (chars text)
unfolding escaped_text
chars_written text = ap chars (written (chars text)) ∙ chars-encodes (flat_map marks (chars text)) (all_marks_scalars (chars text))

-- ---- the two claims

is_text_by : (o : Option (List ℕ)) (c : ℕ) (rest : List ℕ) → reference_to c ≡ o → IsText rest → IsText (by_marks o c ++ rest)
is_text_by None c rest h t = itself (seen c) rest (record { allowed = seen_allowed c; no_mark = seen_no_mark c h }) t
is_text_by (Some name) c rest h t = reference c name rest h t

is_text : (cs : List ℕ) → IsText (flat_map marks cs)
is_text [] = ends
is_text (c ∷ cs) = is_text_by (reference_to c) c (flat_map marks cs) refl (is_text cs)

-- what has no reference is no &
no_and : (c : ℕ) → reference_to c ≡ None → eqb c 38 ≡ false
no_and c h =
    elim (cases_Bool (eqb c 38)) [
      | inl t ↦ (let no : Some (codes "&amp;") ≡ None = sym (cond-true (eqb c 38) (Some (codes "&amp;")) _ t) ∙ h in cc)
      | inr f ↦ f
    ]

read_by : (o : Option (List ℕ)) (c : ℕ) (rest : List ℕ) → reference_to c ≡ o
    → read_on (by_marks o c ++ rest) None ≡ seen c ∷ read_on rest None
read_by None c rest h =
    cond-false (eqb (seen c) 38) (read_on rest (Some [])) (seen c ∷ read_on rest None) (no_and (seen c) (seen_no_mark c h))
read_by (Some name) c rest h = (all_work c name h).read rest ∙ ap (λ (d : ℕ). d ∷ read_on rest None) (sym (all_work c name h).seen_so)

read_marks : (cs : List ℕ) → read_text (flat_map marks cs) ≡ map seen cs
read_marks [] = refl
read_marks (c ∷ cs) = read_by (reference_to c) c (flat_map marks cs) refl ∙ ap (λ (ds : List ℕ). seen c ∷ ds) (read_marks cs)

pub written_is_text : (text : List ℕ) → IsText (chars (escaped_text text))
written_is_text text = subst (λ (cs : List ℕ). IsText cs) (sym (chars_written text)) (is_text (chars text))

pub written_is_read : (text : List ℕ) → read_text (chars (escaped_text text)) ≡ map seen (chars text)
written_is_read text = ap read_text (chars_written text) ∙ read_marks (chars text)
