-- A name in front of anything, a name behind its length, and a name behind other bytes.
use Rattle.std.proofs.Common.{◌≡◌, ℕ, zero, suc, ◌+◌, ◌-◌, ◌<◌, ◌≤◌, ◌⊎◌, List, [], ◌∷◌, ◌++◌, length, take, drop, get_or, replicate}
use Rattle.std.proofs.Common.{ap, refl, sym, ◌∙◌, subst, append_assoc, arith, inl, inr, Option, Some, None, MatchOption, Bor, slice_range, length-append, length-take}
use Rattle.std.proofs.Math.Seq.{take-append_seam, take-append-add, drop-append_seam}
use Rattle.std.proofs.lemmas.Bool.{cases_lt}
use Rattle.std.proofs.lemmas.List.{take_all, take-append-le, take-append-drop, drop-append-le, append-nil, length-replicate}
use Rattle.std.proofs.lemmas.List.{get_or_append_left, get_or-append_right, get_or-replicate, get_or_past}
use Rattle.std.proofs.lemmas.Nat.{be_bytes_2}
use Rattle.std.specs.Int.{to_be_bytes, w16}
use Rattle.std.specs.Option.{unwrap_or}
use Rattle.readers.specs.Places.{Begins}
use Rattle.readers.specs.Reading.{AreBytes}
use Rattle.erl_names.specs.Name.{IsNodeName, is_name_byte, is_host_byte}
use Rattle.erl_handshake.specs.Messages.{counted}
use Rattle.erl_handshake.proofs.Bytes.{bytes_front}
use Rattle.message_beginnings.specs.Parts.{IsNameOf, IsNameInFront, IsCountedName, IsNameBehind}
use Rattle.message_beginnings.proofs.Completion.{letters}

-- bytes that begin with a known one
pub with_byte : (bytes : List ℕ) (byte known : ℕ) (rest : List ℕ) → bytes ≡ byte ∷ rest → byte ≡ known → bytes ≡ known ∷ rest
with_byte bytes byte known rest e f = e ∙ ap (λ (k : ℕ). k ∷ rest) f

-- ---- names have 3 bytes or more

pub at_least_three : (name : List ℕ) → IsNodeName name → 3 ≤ length name
at_least_three name n =
    let a = n.name_word.0 in
    let b = n.host_word.0 in
    omega (arith, ap length n.parts, length-append n.name (64 ∷ n.host))

-- the name a@a
abbrev least : List ℕ
least = 97 ∷ 64 ∷ 97 ∷ []

least_is_name : IsNodeName least
least_is_name = record {
  name = 97 ∷ [];
  host = 97 ∷ [];
  parts = refl;
  name_word = (omega arith, letters is_name_byte 1 refl);
  host_word = (omega arith, letters is_host_byte 1 refl);
  short = omega arith;
}

-- ---- a name in front of anything

pub none_left : (xs : List ℕ) → length xs ≡ 0 → xs ≡ []
none_left [] e = refl
none_left (x ∷ xs) e = absurd (omega arith)

pub take-append : (n : ℕ) (xs ys : List ℕ) → take n (xs ++ ys) ≡ take n xs ++ take (n - length xs) ys
take-append n xs ys =
    elim (cases_lt n (length xs)) [
      | inl lt ↦
          let none : n - length xs ≡ 0 = omega arith in
          take-append-le n xs ys (omega arith) ∙ sym (append-nil (take n xs)) ∙ ap (λ (k : ℕ). take n xs ++ take k ys) (sym none)
      | inr le ↦
          let same : length xs + (n - length xs) ≡ n = omega arith in
          ap (λ (k : ℕ). take k (xs ++ ys)) (sym same) ∙ take-append-add xs ys (n - length xs)
          ∙ ap (λ (w : List ℕ). w ++ take (n - length xs) ys) (sym (take_all n xs le))
    ]

pub in_front : (len : ℕ) (text known : List ℕ) → known ≡ take len text → Begins (IsNameOf len) known → Begins (IsNameInFront len) text
in_front len text known e b =
    elim (cases_lt (length text) len) [
      | inl lt ↦
          let same : known ≡ text = e ∙ take_all len text (omega arith) in
          record {
            value = b.value;
            more = b.more;
            is_text = record {
              rest = [];
              is_name = b.is_text.is_name;
              len_is = b.is_text.len_is;
              parts = ap (λ (w : List ℕ). w ++ b.more) (sym same) ∙ b.is_text.parts ∙ sym (append-nil b.value);
            };
          }
      | inr le ↦
          let full : length known ≡ len = ap length e ∙ length-take len text ∙ omega arith in
          let no_more : b.more ≡ [] = none_left b.more
          (omega (arith, ap length b.is_text.parts, b.is_text.len_is, length-append known b.more)) in
          let same : known ≡ b.value = sym (append-nil known) ∙ ap (λ (w : List ℕ). known ++ w) (sym no_more) ∙ b.is_text.parts in
          record {
            value = b.value;
            more = [];
            is_text = record {
              rest = drop len text;
              is_name = b.is_text.is_name;
              len_is = b.is_text.len_is;
              parts = append-nil text ∙ sym (take-append-drop len text) ∙ ap (λ (w : List ℕ). w ++ drop len text) (sym e ∙ same);
            };
          }
    ]

pub of_front : (len : ℕ) (text known : List ℕ) → known ≡ take len text → Begins (IsNameInFront len) text → Begins (IsNameOf len) known
of_front len text known e b =
    let t = b.is_text in
    let cut_off : take len (b.value ++ t.rest) ≡ b.value = ap (λ (k : ℕ). take k (b.value ++ t.rest)) (sym t.len_is)
    ∙ take-append_seam b.value t.rest in
    record {
      value = b.value;
      more = take (len - length text) b.more;
      is_text = record {
        is_name = t.is_name;
        len_is = t.len_is;
        parts = ap (λ (w : List ℕ). w ++ take (len - length text) b.more) e ∙ sym (take-append len text b.more) ∙ ap (take len) t.parts
            ∙ cut_off;
      };
    }

-- so many bytes of a text, or all that are there
pub known_is : (len : ℕ) (text : Bor (List ℕ)) (r : Option (Bor (List ℕ))) → MatchOption r ((len < 0) ⊎ (length text.now < len))
    (λ x. (0 ≤ len) × (len ≤ length text.now) × (x.now ≡ slice_range text.now 0 len) × (length x.now + 0 ≡ len))
    → (unwrap_or r text).now ≡ take len text.now
known_is len text None h = sym (take_all len text.now (elim h [ inl low ↦ absurd (omega arith) | inr short ↦ omega arith ]))
known_is len text (Some x) h = h.2 ∙ ap (λ (k : ℕ). take k text.now) (let z : len - 0 ≡ len = omega arith in z)

-- ---- a name behind its length

-- a length of one byte, behind a 0
small_number : (n : ℕ) → n ≤ 64 → to_be_bytes w16 n ≡ 0 ∷ n ∷ []
small_number n le = be_bytes_2 (0 ∷ n ∷ []) n refl fits (omega arith)
  where
    fits : (i : ℕ) → get_or (0 ∷ n ∷ []) i 0 < 256
    fits zero = omega arith
    fits (suc zero) = omega arith
    fits (suc (suc i)) = omega (arith, get_or_past (0 ∷ n ∷ []) (suc (suc i)) 0 (omega arith))

pub counted_is : (name : List ℕ) → length name ≤ 64 → counted name ≡ 0 ∷ length name ∷ name
counted_is name le = ap (λ (w : List ℕ). w ++ name) (small_number (length name) le)

-- what a length and a name begin with
pub begun_counted : (most : ℕ) (bytes : List ℕ) (b : Begins (IsCountedName most) bytes)
    → bytes ++ b.more ≡ 0 ∷ length b.value ∷ (b.value ++ b.is_text.begins.rest)
begun_counted most bytes b =
    let t = b.is_text.begins in
    t.parts ∙ ap (λ (w : List ℕ). w ++ t.rest) (counted_is b.value t.is_name.short)

pub has_room : (most : ℕ) (bytes : List ℕ) → Begins (IsCountedName most) bytes → 3 ≤ most
has_room most bytes b = let l = b.is_text.short in omega (arith, at_least_three b.value b.is_text.begins.is_name)

least_counted : (most : ℕ) → 3 ≤ most → IsCountedName most least (0 ∷ 3 ∷ least)
least_counted most le = record { begins = record { rest = []; is_name = least_is_name; parts = refl }; short = le }

pub none_begins : (most : ℕ) → 3 ≤ most → Begins (IsCountedName most) []
none_begins most le = record { value = least; more = 0 ∷ 3 ∷ least; is_text = least_counted most le }

pub zero_begins : (most : ℕ) → 3 ≤ most → Begins (IsCountedName most) (0 ∷ [])
zero_begins most le = record { value = least; more = 3 ∷ least; is_text = least_counted most le }

pub length_begins : (most len : ℕ) (text : List ℕ) → len ≤ most → Begins (IsNameInFront len) text
    → Begins (IsCountedName most) (0 ∷ len ∷ text)
length_begins most len text le b =
    let t = b.is_text in
    record {
      value = b.value;
      more = b.more;
      is_text = record {
        begins = record {
          rest = t.rest;
          is_name = t.is_name;
          parts = ap (λ (w : List ℕ). 0 ∷ len ∷ w) t.parts ∙ ap (λ (k : ℕ). 0 ∷ k ∷ (b.value ++ t.rest)) (sym t.len_is)
              ∙ ap (λ (w : List ℕ). w ++ t.rest) (sym (counted_is b.value t.is_name.short));
        };
        short = omega (arith, t.len_is);
      };
    }

pub begun_length : (most len : ℕ) (text : List ℕ) → Begins (IsCountedName most) (0 ∷ len ∷ text)
    → (len ≤ most) × Begins (IsNameInFront len) text
begun_length most len text b =
    let t = b.is_text.begins in
    let e = begun_counted most (0 ∷ len ∷ text) b in
    let same : len ≡ length b.value = second e in (
      let s = b.is_text.short in omega arith,
      record {
        value = b.value;
        more = b.more;
        is_text = record { rest = t.rest; is_name = t.is_name; len_is = sym same; parts = behind_two e };
      },
    )
  where
    second : {x y a b : ℕ} {v w : List ℕ} → x ∷ a ∷ v ≡ y ∷ b ∷ w → a ≡ b
    second e = cc

    behind_two : {x y a b : ℕ} {v w : List ℕ} → x ∷ a ∷ v ≡ y ∷ b ∷ w → v ≡ w
    behind_two e = cc

-- ---- a name behind other bytes

pub zeros : (n : ℕ) → AreBytes (replicate n 0)
zeros n i =
    elim (cases_lt i n) [
      | inl lt ↦ omega (arith, get_or-replicate {A = ℕ} n i 0 0 lt)
      | inr le ↦ omega (arith, get_or_past {X = ℕ} (replicate n 0) i 0 (omega (arith, length-replicate {A = ℕ} n 0)))
    ]

pub AreBytes-append : (xs ys : List ℕ) → AreBytes xs → AreBytes ys → AreBytes (xs ++ ys)
AreBytes-append xs ys h k i =
    elim (cases_lt i (length xs)) [
      | inl lt ↦ let b = h i in omega (arith, get_or_append_left xs ys 0 i lt)
      | inr le ↦ let b = k (i - length xs) in omega (arith, get_or-append_right xs ys (length xs) i 0 refl le)
    ]

pub few_begin : (before most : ℕ) (bytes : List ℕ) → AreBytes bytes → length bytes < before → 3 ≤ most
    → Begins (IsNameBehind before most) bytes
few_begin before most bytes h lt le =
    record {
      value = least;
      more = fill ++ (0 ∷ 3 ∷ least);
      is_text = record {
        front = bytes ++ fill;
        tail = 0 ∷ 3 ∷ least;
        front_len = length-append bytes fill ∙ omega (arith, length-replicate {A = ℕ} (before - length bytes) 0);
        are_bytes = AreBytes-append bytes fill h (zeros (before - length bytes));
        is_counted = least_counted most le;
        parts = sym (append_assoc bytes fill (0 ∷ 3 ∷ least));
      };
    }
  where
    fill : List ℕ
    fill = replicate (before - length bytes) 0

pub begun_few : (before most : ℕ) (bytes : List ℕ) → Begins (IsNameBehind before most) bytes → 3 ≤ most
begun_few before most bytes b =
    let t = b.is_text.is_counted in
    let l = t.short in
    omega (arith, at_least_three b.value t.begins.is_name)

pub rest_begins : (before most : ℕ) (bytes counted : List ℕ) → AreBytes bytes → before ≤ length bytes → counted ≡ drop before bytes
    → Begins (IsCountedName most) counted → Begins (IsNameBehind before most) bytes
rest_begins before most bytes counted h le e b = record {
  value = b.value;
  more = b.more;
  is_text = record {
    front = take before bytes;
    tail = counted ++ b.more;
    front_len = length-take before bytes ∙ omega arith;
    are_bytes = bytes_front bytes before h;
    is_counted = b.is_text;
    parts = ap (λ (w : List ℕ). w ++ b.more) (sym (take-append-drop before bytes) ∙ ap (λ (w : List ℕ). take before bytes ++ w) (sym e))
        ∙ append_assoc (take before bytes) counted b.more;
  };
}

pub begun_rest : (before most : ℕ) (bytes counted : List ℕ) → before ≤ length bytes → counted ≡ drop before bytes
    → Begins (IsNameBehind before most) bytes → Begins (IsCountedName most) counted
begun_rest before most bytes counted le e b =
    let t = b.is_text in
    let there : drop before (bytes ++ b.more) ≡ counted ++ b.more = drop-append-le before bytes b.more le
    ∙ ap (λ (w : List ℕ). w ++ b.more) (sym e) in
    let same : counted ++ b.more ≡ t.tail = sym there ∙ ap (drop before) t.parts
    ∙ ap (λ (k : ℕ). drop k (t.front ++ t.tail)) (sym t.front_len) ∙ drop-append_seam t.front t.tail in
    record { value = b.value; more = b.more; is_text = subst (IsCountedName most b.value) (sym same) t.is_counted }
