-- A pid as numbers and the place of its node's name.
use Rattle.std.proofs.Common.{◌≡◌, ℕ, suc, ◌+◌, ◌-◌, ◌≤◌, List, ◌∷◌, ◌++◌, length, take, drop, get_or, refl, ap, sym, subst, ◌∙◌, arith, inl, inr}
use Rattle.std.specs.Prelude.{◌==◌, if◌then◌else◌}
use Rattle.std.specs.Str.{chars}
use Rattle.std.proofs.lemmas.List.{take-append-drop, length-append, length-drop, drop-append-le}
use Rattle.std.proofs.Math.Seq.{take-append_seam, drop-append_seam}
use Rattle.byteorder.specs.Endian.{big_number}
use Rattle.readers.specs.Reading.{AreBytes}
use Rattle.readers.proofs.Sequence.{AreBytes-split}
use Rattle.erl_term.specs.Data.{atom}
use Rattle.erl_term.specs.Spelling.{IsPid, Spells, SpellsAtom}
use Rattle.erl_handshake.proofs.Bytes.{bytes_front, bytes_rest, front_len}
use Rattle.c_library.specs.Reading.{latin_of, head_len, IsSeen}

-- an atom of one level is no list
pub own_atom : (a b : List ℕ) → Spells 1 (atom a) b → SpellsAtom a b
own_atom a b (inl s) = s
own_atom a b (inr s) = absurd s.is_tail

-- the text of an atom behind its head, by its first byte
record HasText (a text : List ℕ) (tag : ℕ) : Type 0 where
  within : head_len tag ≤ length text
  is_text : drop (head_len tag) text ≡ (if latin_of tag == 0 then a else chars a)

behind_len : (tag n : ℕ) (len a text : List ℕ) → length len ≡ n → text ≡ tag ∷ (len ++ a) → (n + 1 ≤ length text) × (drop (n + 1) text ≡ a)
behind_len tag n len a text l e =
    let size = ap length e in
    let both = length-append len a in
    let one : n + 1 ≡ suc n = omega arith in (
      omega arith,
      ap (drop (n + 1)) e ∙ ap (λ k. drop k (tag ∷ (len ++ a))) one ∙ ap (λ k. drop k (len ++ a)) (sym l) ∙ drop-append_seam len a,
    )

has_text : (a text : List ℕ) → SpellsAtom a text → HasText a text (get_or text 0 0)
has_text a text (inl s) =
    let k = behind_len 119 1 s.len a text s.number.len s.bytes in
    subst (λ t. HasText a text (get_or t 0 0)) (sym s.bytes) (record { within = k.0; is_text = k.1 })
has_text a text (inr (inl s)) =
    let k = behind_len 118 2 s.len a text s.number.len s.bytes in
    subst (λ t. HasText a text (get_or t 0 0)) (sym s.bytes) (record { within = k.0; is_text = k.1 })
has_text a text (inr (inr (inl s))) =
    let k = behind_len 115 1 s.len (chars a) text s.number.len s.bytes in
    subst (λ t. HasText a text (get_or t 0 0)) (sym s.bytes) (record { within = k.0; is_text = k.1 })
has_text a text (inr (inr (inr s))) =
    let k = behind_len 100 2 s.len (chars a) text s.number.len s.bytes in
    subst (λ t. HasText a text (get_or t 0 0)) (sym s.bytes) (record { within = k.0; is_text = k.1 })

first_byte : (a text rest : List ℕ) → SpellsAtom a text → get_or (text ++ rest) 0 0 ≡ get_or text 0 0
first_byte a text rest (inl s) = subst (λ t. get_or (t ++ rest) 0 0 ≡ get_or t 0 0) (sym s.bytes) refl
first_byte a text rest (inr (inl s)) = subst (λ t. get_or (t ++ rest) 0 0 ≡ get_or t 0 0) (sym s.bytes) refl
first_byte a text rest (inr (inr (inl s))) = subst (λ t. get_or (t ++ rest) 0 0 ≡ get_or t 0 0) (sym s.bytes) refl
first_byte a text rest (inr (inr (inr s))) = subst (λ t. get_or (t ++ rest) 0 0 ≡ get_or t 0 0) (sym s.bytes) refl

module _ (bytes text numbers a : List ℕ) (h : AreBytes bytes) (is_atom : SpellsAtom a text) (e : bytes ≡ text ++ numbers)
    (twelve : length numbers ≡ 12) where
  are_bytes : AreBytes numbers
  are_bytes = AreBytes-split bytes text numbers h e

  pub pid_of : (id serial creation : ℕ) → id ≡ big_number 4 (take 4 numbers) → serial ≡ big_number 4 (take 4 (drop 4 numbers))
      → creation ≡ big_number 4 (drop 4 (drop 4 numbers))
      → IsPid (record { node = a; creation = creation; id = id; serial = serial }) (88 ∷ bytes)
  pid_of id serial creation f g k =
      let one = length-drop 4 numbers in
      let two = length-drop 4 (drop 4 numbers) in
      record {
        node = text;
        id = take 4 numbers;
        serial = take 4 (drop 4 numbers);
        creation = drop 4 (drop 4 numbers);
        is_node = is_atom;
        is_id = record { len = front_len numbers (take 4 numbers) 4 (omega arith) refl; bytes = bytes_front numbers 4 are_bytes; says = sym f };
        is_serial = record {
          len = front_len (drop 4 numbers) (take 4 (drop 4 numbers)) 4 (omega arith) refl;
          bytes = bytes_front (drop 4 numbers) 4 (bytes_rest numbers 4 are_bytes);
          says = sym g;
        };
        is_creation = record {
          len = omega arith;
          bytes = bytes_rest (drop 4 numbers) 4 (bytes_rest numbers 4 are_bytes);
          says = sym k;
        };
        bytes = ap (λ w. 88 ∷ w) (e
            ∙ ap (λ w. text ++ w) (sym (take-append-drop 4 numbers)
            ∙ ap (λ w. take 4 numbers ++ w) (sym (take-append-drop 4 (drop 4 numbers)))));
      }

  pub seen_of : (id serial creation latin head size : ℕ) → latin ≡ latin_of (get_or bytes 0 0) → head ≡ head_len (get_or bytes 0 0)
      → size ≡ length bytes - 12 - head
      → IsSeen (88 ∷ bytes) (record { node = a; creation = creation; id = id; serial = serial })
      (record { node = record { offset = head + 1; length = size }; latin1 = latin; id = id; serial = serial; creation = creation })
  seen_of id serial creation latin head size f g k =
      let t = has_text a text is_atom in
      let first : get_or bytes 0 0 ≡ get_or text 0 0 = ap (λ w. get_or w 0 0) e ∙ first_byte a text numbers is_atom in
      let head_is : head ≡ head_len (get_or text 0 0) = g ∙ ap head_len first in
      let latin_is : latin ≡ latin_of (get_or text 0 0) = f ∙ ap latin_of first in
      let le : head ≤ length text = subst (λ n. n ≤ length text) (sym head_is) t.within in
      let all = ap length e in
      let sum = length-append text numbers in
      let left = length-drop head text in
      let size_is : size ≡ length (drop head text) = omega arith in
      let one : head + 1 ≡ suc head = omega arith in
      let behind : drop (head + 1) (88 ∷ bytes) ≡ drop head text ++ numbers =
      ap (λ n. drop n (88 ∷ bytes)) one ∙ ap (drop head) e ∙ drop-append-le head text numbers le in
      record {
        id = refl;
        serial = refl;
        creation = refl;
        within = omega arith;
        text = ap (take size) behind ∙ ap (λ n. take n (drop head text ++ numbers)) size_is ∙ take-append_seam (drop head text) numbers
            ∙ ap (λ n. drop n text) head_is ∙ t.is_text ∙ ap (λ n. if n == 0 then a else chars a) (sym latin_is);
      }
