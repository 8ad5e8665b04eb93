-- Why a text, a node, a pid, a reference, a string, a binary or a big integer is at fault.
use Rattle.std.proofs.Common.{[], ◌≡◌, ◌≢◌, ℕ, zero, suc, ◌+◌, ◌^◌, ◌<◌, ◌≤◌, true, List, ◌∷◌, ◌++◌}
use Rattle.std.proofs.Common.{length, take, Err, refl, sym, ap, subst, ◌∙◌, arith, ◌⊎◌, inl, inr}
use Rattle.std.proofs.lemmas.List.{length-append, take_all, nil_from_length}
use Rattle.byteorder.specs.Endian.{big_number}
use Rattle.erl_term.specs.declared.error.TermError.{TermError}
use Rattle.erl_term.specs.declared.error.TermError.TheVariants.{Cut, Malformed, OutOfProfile}
use Rattle.erl_term.specs.Numbers.{low_first}
use Rattle.erl_term.specs.Text.{latin_text}
use Rattle.erl_term.specs.Spelling.{IsNumber, SpellsAtom}
use Rattle.erl_term.specs.Faults.{IsBadBig}
use Rattle.erl_term.specs.Reading.{Read, read_number, read_bounded, read_part, read_big, read_text, read_atom, read_letters}
use Rattle.erl_term.specs.Reading.{read_latin, read_node, read_pid, read_word_count, read_words, read_reference}
use Rattle.erl_term.proofs.Readers.{Reads, Then, and_then, Reads-then, Mapped, Reads-map}
use Rattle.erl_term.proofs.Readers.{Explains, Explains-by, Explains-then, Explains-map, map_read}
use Rattle.erl_term.proofs.Base.{byte_where, IsByteWhere, Reads-where, IsNumberTo, Reads-any, Reads-number}
use Rattle.erl_term.proofs.TextReader.{IsText, Reads-text, Says, says, says_cut, says_hopeless, says_text, says_bad}
use Rattle.erl_term.proofs.Rows.{IsMagnitude, magnitude_at, Reads-magnitude, Weighs, weighs, weighs_cut, weighs_large, weighs_in}
use Rattle.erl_term.proofs.Bytes.{one_byte}
use Rattle.erl_term.proofs.Tags.{each_found}
use Rattle.erl_term.proofs.Pieces.{IsPart, part_cut, Reads-part, sized_at, IsWordCount}
use Rattle.erl_term.proofs.Pieces.{Reads-word_count, word_count_why, Counted, words_after, Reads-words}
use Rattle.erl_term.proofs.TableRows.{node_tags, is_node, AfterNode, node_row, node_rows, node_same, Reads-node, made_pid, made_reference}
use Rattle.erl_term.proofs.TableRows.{reference_words, Reads-reference_words, Reads-reference_creation, Reads-reference_node}
use Rattle.erl_term.proofs.Why.{Nothing, IsOnly, Explains-any, TooMuch, Explains-number, IsUnknown, Explains-where}

text_why : (n : ℕ) (bytes : List ℕ) (e : TermError) → e ≢ Cut → Says n bytes (read_text n bytes) → read_text n bytes ≡ Err e → e ≡ Malformed
text_why n bytes e c (says_cut l m r) k = absurd (c (let q = sym k ∙ r in cc))
text_why n bytes e c (says_hopeless l m r) k = cc
text_why n bytes e c (says_text l t r) k = absurd cc
text_why n bytes e c (says_bad l t r) k = cc

Explains-text : (n : ℕ) → Explains (IsOnly Malformed) (read_text n)
Explains-text n = record { why = λ front byte e h c k l. text_why n (front ++ byte ∷ []) e c (says n (front ++ byte ∷ [])) l }

pub Explains-atom : (width : ℕ) → Explains (IsOnly Malformed) (read_atom width)
unfolding read_atom
Explains-atom width =
    Explains-then (IsNumberTo 1020 width) IsText (read_bounded Malformed 1020 width) read_text
    (Reads-number Malformed 1020 width (λ e. cc)) (λ n text s. Reads-text n s.bound)
    (TooMuch 1020 width Malformed) (λ n. IsOnly Malformed) (IsOnly Malformed) (Explains-number Malformed 1020 width (λ e. cc))
    (λ n text s. Explains-text n)
    (λ front byte e w. w.is_fault) (λ n text inner byte e s w. w)

Explains-part : (n : ℕ) → Explains Nothing (read_part n)
Explains-part n = record { why = λ front byte e h c k l. absurd (c (part_cut n (front ++ byte ∷ []) e l).1) }

Explains-letters : (width : ℕ) → Explains (IsOnly Malformed) (read_letters width)
unfolding read_letters
Explains-letters width =
    Explains-then (IsNumberTo 255 width) IsPart (read_bounded Malformed 255 width) read_part
    (Reads-number Malformed 255 width (λ e. cc)) (λ n text s. Reads-part n)
    (TooMuch 255 width Malformed) (λ n. Nothing) (IsOnly Malformed) (Explains-number Malformed 255 width (λ e. cc))
    (λ n text s. Explains-part n)
    (λ front byte e w. w.is_fault) (λ n text inner byte e s w. absurd w)

pub Explains-latin : (width : ℕ) → Explains (IsOnly Malformed) (read_latin width)
unfolding read_latin
Explains-latin width = Explains-map latin_text (IsOnly Malformed) (read_letters width) (Explains-letters width)

node_explains : (k : ℕ) → is_node k ≡ true → Explains (IsOnly Malformed) (node_row k)
node_explains k e =
    each_found (λ j. Explains (IsOnly Malformed) (node_row j)) node_tags
    (Explains-atom 1, (Explains-atom 2, (Explains-latin 1, (Explains-latin 2, tt)))) k e

Explains-node : Explains (IsOnly Malformed) read_node
Explains-node =
    Explains-by (IsOnly Malformed) (and_then (byte_where is_node (λ k. Malformed)) node_row) read_node node_same
    (Explains-then (IsByteWhere is_node) AfterNode (byte_where is_node (λ k. Malformed)) node_row
    (Reads-where is_node (λ k. Malformed) (λ k e. cc) 119 refl (omega arith)) (λ k b s. node_rows k s.passes)
    (IsUnknown is_node (λ k. Malformed)) (λ k. IsOnly Malformed) (IsOnly Malformed)
    (Explains-where is_node (λ k. Malformed) (λ k e. cc)) (λ k b s. node_explains k s.passes)
    (λ front byte e w. w.is_fault) (λ n text inner byte e s w. w))

Explains-words : {A : Type 0} (T : ℕ → A → List ℕ → Type 0) (next : ℕ → List ℕ → Read A) → ((n : ℕ) → Reads (T n) (next n))
    → ((n : ℕ) → Explains Nothing (next n)) → Explains Nothing (and_then (read_number 4) next)
Explains-words T next r x =
    Explains-then (IsNumber 4) T (read_number 4) next (Reads-any 4) (λ n text s. r n) Nothing (λ n. Nothing) Nothing
    (Explains-any 4) (λ n text s. x n) (λ front byte e w. w) (λ n text inner byte e s w. w)

pub Explains-pid : Explains (IsOnly Malformed) read_pid
unfolding read_pid
Explains-pid =
    let last = λ (node : List ℕ) (id serial : ℕ). Reads-map (made_pid node id serial) (IsNumber 4) (read_number 4) (Reads-any 4) in
    let mid =
    λ (node : List ℕ) (id : ℕ). Reads-then (IsNumber 4) (λ serial. Mapped (made_pid node id serial) (IsNumber 4))
    (read_number 4) (λ serial bytes. map_read (made_pid node id serial) (read_number 4 bytes)) (Reads-any 4)
    (λ serial w x. last node id serial) in
    Explains-then SpellsAtom
    (λ node. Then (IsNumber 4) (λ id. Then (IsNumber 4) (λ serial. Mapped (made_pid node id serial) (IsNumber 4)))) read_node
    (λ node. and_then (read_number 4) (λ id. and_then (read_number 4)
    (λ serial bytes. map_read (made_pid node id serial) (read_number 4 bytes))))
    Reads-node
    (λ node t s. Reads-then (IsNumber 4) (λ id. Then (IsNumber 4) (λ serial. Mapped (made_pid node id serial) (IsNumber 4)))
    (read_number 4) (λ id. and_then (read_number 4) (λ serial bytes. map_read (made_pid node id serial) (read_number 4 bytes)))
    (Reads-any 4) (λ id u v. mid node id))
    (IsOnly Malformed) (λ node. Nothing) (IsOnly Malformed) Explains-node
    (λ node t s. Explains-words (λ id. Then (IsNumber 4) (λ serial. Mapped (made_pid node id serial) (IsNumber 4)))
    (λ id. and_then (read_number 4) (λ serial bytes. map_read (made_pid node id serial) (read_number 4 bytes))) (mid node)
    (λ id. Explains-words (λ serial. Mapped (made_pid node id serial) (IsNumber 4))
    (λ serial bytes. map_read (made_pid node id serial) (read_number 4 bytes)) (last node id)
    (λ serial. Explains-map (made_pid node id serial) Nothing (read_number 4) (Explains-any 4))))
    (λ front byte e w. w) (λ n text inner byte e s w. absurd w)

-- ---- strings, binaries and references

pub Explains-sized : {A : Type 0} (width : ℕ) (f : List ℕ → A) → Explains Nothing (sized_at width f)
Explains-sized width f =
    Explains-then (IsNumber width) (λ n. Mapped f (IsPart n)) (read_number width) (λ n bytes. map_read f (read_part n bytes))
    (Reads-any width) (λ n text s. Reads-map f (IsPart n) (read_part n) (Reads-part n))
    Nothing (λ n. Nothing) Nothing (Explains-any width) (λ n text s. Explains-map f Nothing (read_part n) (Explains-part n))
    (λ front byte e w. w) (λ n text inner byte e s w. w)

Explains-word_count : Explains (IsOnly Malformed) read_word_count
Explains-word_count = record { why = λ front byte e h c k l. word_count_why (front ++ byte ∷ []) e c l }

Explains-counted : (n : ℕ) → Explains Nothing (read_words n)
unfolding read_words
Explains-counted zero = record { why = λ front byte e h c k l. absurd cc }
Explains-counted (suc n) =
    Explains-words (λ w. Mapped (λ (us : List ℕ). w ∷ us) (Counted n)) (words_after n)
    (λ w. Reads-map (λ (us : List ℕ). w ∷ us) (Counted n) (read_words n) (Reads-words n))
    (λ w. Explains-map (λ (us : List ℕ). w ∷ us) Nothing (read_words n) (Explains-counted n))

pub Explains-reference : Explains (IsOnly Malformed) read_reference
unfolding read_reference
Explains-reference =
    Explains-then IsWordCount
    (λ n. Then SpellsAtom (λ node. Then (IsNumber 4) (λ creation. Mapped (made_reference node creation) (Counted n)))) read_word_count
    (λ n. and_then read_node (λ node. and_then (read_number 4) (reference_words n node))) Reads-word_count
    (λ n t s. Reads-reference_node n) (IsOnly Malformed) (λ n. IsOnly Malformed) (IsOnly Malformed) Explains-word_count
    (λ n t s. Explains-then SpellsAtom
    (λ node. Then (IsNumber 4) (λ creation. Mapped (made_reference node creation) (Counted n))) read_node
    (λ node. and_then (read_number 4) (reference_words n node)) Reads-node (λ node u v. Reads-reference_creation n node)
    (IsOnly Malformed) (λ node. Nothing) (IsOnly Malformed) Explains-node
    (λ node u v. Explains-words (λ creation. Mapped (made_reference node creation) (Counted n)) (reference_words n node)
    (Reads-reference_words n node)
    (λ creation. Explains-map (made_reference node creation) Nothing (read_words n) (Explains-counted n)))
    (λ front byte e w. w) (λ node text inner byte e v w. absurd w))
    (λ front byte e w. w) (λ n text inner byte e s w. w)

-- ---- big integers

-- this byte ends a magnitude that is out of range
record MagnitudeWhy (n sign : ℕ) (front : List ℕ) (byte : ℕ) (e : TermError) : Type 0 where
  pub is_fault : e ≡ OutOfProfile 110
  pub last : suc (length front) ≡ n
  pub large : 2 ^ 127 + sign ≤ low_first (front ++ byte ∷ [])

magnitude_why : (n sign : ℕ) (front : List ℕ) (byte : ℕ) (e : TermError) → e ≢ Cut
    → Weighs n sign front (magnitude_at n sign front)
    → Weighs n sign (front ++ byte ∷ []) (magnitude_at n sign (front ++ byte ∷ [])) → magnitude_at n sign front ≡ Err Cut
    → magnitude_at n sign (front ++ byte ∷ []) ≡ Err e → MagnitudeWhy n sign front byte e
magnitude_why n sign front byte e c (weighs_large l g d) w k m = absurd (let q : Err (OutOfProfile 110) ≡ Err Cut = sym d ∙ k in cc)
magnitude_why n sign front byte e c (weighs_in l g d) w k m = absurd cc
magnitude_why n sign front byte e c (weighs_cut l d) (weighs_cut l2 d2) k m = absurd (c (let q = sym m ∙ d2 in cc))
magnitude_why n sign front byte e c (weighs_cut l d) (weighs_in l2 g2 d2) k m = absurd cc
magnitude_why n sign front byte e c (weighs_cut l d) (weighs_large l2 g2 d2) k m =
    let len = length-append front (byte ∷ []) in
    let same : low_first (take n (front ++ byte ∷ [])) ≡ low_first (front ++ byte ∷ []) =
    ap low_first (take_all n (front ++ byte ∷ []) (omega arith)) in
    record { is_fault = cc; last = omega arith; large = omega arith }

Explains-magnitude : (n sign : ℕ) → Explains (MagnitudeWhy n sign) (magnitude_at n sign)
Explains-magnitude n sign = record {
  why = λ front byte e h c k l. magnitude_why n sign front byte e c (weighs n sign front) (weighs n sign (front ++ byte ∷ [])) k l;
}

record BadMagnitude (n : ℕ) (front : List ℕ) (byte : ℕ) (e : TermError) : Type 0 where
  pub sign : ℕ
  pub digits : List ℕ
  pub is_sign : sign ≤ 1
  pub why : MagnitudeWhy n sign digits byte e
  pub parts : front ≡ sign ∷ digits

abbrev SignWhy : ℕ → List ℕ → ℕ → TermError → Type 0
SignWhy n front byte e = (e ≡ Malformed) ⊎ BadMagnitude n front byte e

abbrev pub BigWhy : List ℕ → ℕ → TermError → Type 0
BigWhy front byte e = (e ≡ Malformed) ⊎ ((e ≡ OutOfProfile 110) × IsBadBig byte (110 ∷ front))

sign_to : (n : ℕ) (s : ℕ) (text inner : List ℕ) (byte : ℕ) (e : TermError) → IsNumberTo 1 1 s text
    → MagnitudeWhy n s inner byte e → SignWhy n (text ++ inner) byte e
sign_to n s text inner byte e k w =
    inr
    (record { sign = s; digits = inner; is_sign = k.bound; why = w; parts = ap (λ (v : List ℕ). v ++ inner) (one_byte s text k.number) })

big_first : (front : List ℕ) (byte : ℕ) (e : TermError) → TooMuch 16 1 (OutOfProfile 110) front byte e → BigWhy front byte e
big_first front byte e w =
    let short = w.short in let none = nil_from_length front (omega arith) in
    let high : 16 < big_number 1 (byte ∷ []) = subst (λ (v : List ℕ). 16 < big_number 1 (v ++ byte ∷ [])) none w.high in
    let one : big_number 1 (byte ∷ []) ≡ byte = omega arith in
    inr (w.is_fault, inl (ap (λ (v : List ℕ). 110 ∷ v) none, omega arith))

big_then : (n : ℕ) (text inner : List ℕ) (byte : ℕ) (e : TermError) → IsNumberTo 16 1 n text → SignWhy n inner byte e
    → BigWhy (text ++ inner) byte e
big_then n text inner byte e k (inl w) = inl w
big_then n text inner byte e k (inr w) =
    let last = w.why.last in
    let le = k.bound in
    inr (
      w.why.is_fault,
      inr (record {
        sign = w.sign;
        digits = w.digits;
        is_sign = w.is_sign;
        short = omega arith;
        large = w.why.large;
        parts = ap (λ (v : List ℕ). 110 ∷ (v ++ inner)) (one_byte n text k.number) ∙ ap (λ (v : List ℕ). 110 ∷ n ∷ v) w.parts
            ∙ ap (λ (j : ℕ). 110 ∷ j ∷ w.sign ∷ w.digits) (sym last);
      }),
    )

pub Explains-big : Explains BigWhy read_big
unfolding read_big
Explains-big =
    let second =
    λ (n : ℕ) (le : n ≤ 16). Reads-then (IsNumberTo 1 1) (IsMagnitude n) (read_bounded Malformed 1 1) (magnitude_at n)
    (Reads-number Malformed 1 1 (λ e. cc)) (λ sign more z. Reads-magnitude n sign le) in
    Explains-then (IsNumberTo 16 1) (λ n. Then (IsNumberTo 1 1) (IsMagnitude n)) (read_bounded (OutOfProfile 110) 16 1)
    (λ n. and_then (read_bounded Malformed 1 1) (magnitude_at n)) (Reads-number (OutOfProfile 110) 16 1 (λ e. cc))
    (λ n text s. second n s.bound)
    (TooMuch 16 1 (OutOfProfile 110)) SignWhy BigWhy (Explains-number (OutOfProfile 110) 16 1 (λ e. cc))
    (λ n text s. Explains-then (IsNumberTo 1 1) (IsMagnitude n) (read_bounded Malformed 1 1) (magnitude_at n)
    (Reads-number Malformed 1 1 (λ e. cc)) (λ sign more z. Reads-magnitude n sign s.bound)
    (TooMuch 1 1 Malformed) (λ sign. MagnitudeWhy n sign) (SignWhy n) (Explains-number Malformed 1 1 (λ e. cc))
    (λ sign more z. Explains-magnitude n sign)
    (λ front byte e w. inl w.is_fault) (sign_to n))
    big_first big_then
