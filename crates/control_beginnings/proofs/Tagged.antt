-- The tag of an operation in the rows of integers.
use Rattle.std.proofs.Common.{◌≡◌, ℕ, zero, suc, ◌+◌, ◌-◌, ◌*◌, ◌^◌, ◌≤◌, ◌<◌, Bool, List, [], ◌∷◌, ◌++◌, length, take, get_or, refl, sym, ap, subst, ◌∙◌, arith}
use Rattle.std.proofs.Common.{inl, inr, IsTrue}
use Rattle.std.proofs.lemmas.List.{get_or_past}
use Rattle.std.proofs.lemmas.Int.{ints, of_z-to_z}
use Rattle.std.specs.Prelude.{FitsSigned}
use Rattle.std.proofs.Math.Facts.{sfits_to_z}
use Rattle.std.specs.Prelude.{pos, negsuc}
use Rattle.std.specs.Int.{w32, cast_signed, cast_unsigned}
use Rattle.byteorder.specs.Endian.{big_number, little_from}
use Rattle.erl_term.specs.Numbers.{AreBytes, low_first, signed}
use Rattle.erl_term.specs.Data.{int}
use Rattle.erl_term.specs.Spelling.{IsNumber, IsSmallInteger, IsInteger}
use Rattle.erl_term.proofs.Behind.{spelled_behind, behind_spelled}
use Rattle.erl_term.proofs.Bytes.{one_byte, byte_number}
use Rattle.control_beginnings.specs.Parts.{Starts, IsTagText, IsBigTag, IsTagAt, zeros, big_word}
use Rattle.control_beginnings.proofs.Passing.{IsOther, Deep, Tells}

-- ---- magnitudes

little_from-cons : (b : ℕ) (bs : List ℕ) (i n : ℕ) → little_from (suc i) n (b ∷ bs) ≡ little_from i n bs
little_from-cons b bs i zero = refl
little_from-cons b bs i (suc n) = let e = little_from-cons b bs (suc i) n in rw e refl

pub low_first-cons : (b : ℕ) (bs : List ℕ) → low_first (b ∷ bs) ≡ b + 256 * low_first bs
low_first-cons b bs = let e = little_from-cons b bs 0 (length bs) in rw e refl

pub low_first-zeros : (n : ℕ) → low_first (zeros n) ≡ 0
low_first-zeros zero = refl
low_first-zeros (suc n) = let e = low_first-cons 0 (zeros n) in let k = low_first-zeros n in omega arith

pub length-zeros : (n : ℕ) → length (zeros n) ≡ n
length-zeros zero = refl
length-zeros (suc n) = ap suc (length-zeros n)

pub zeros_are_bytes : (n : ℕ) → AreBytes (zeros n)
zeros_are_bytes zero i = let e : get_or {A = ℕ} [] i 0 ≡ 0 = get_or_past [] i 0 (omega arith) in omega arith
zeros_are_bytes (suc n) zero = omega arith
zeros_are_bytes (suc n) (suc i) = zeros_are_bytes n i

take-zeros : (m n : ℕ) → m ≤ n → take m (zeros n) ≡ zeros m
take-zeros zero n le = refl
take-zeros (suc m) zero le = absurd (omega arith)
take-zeros (suc m) (suc n) le = ap (λ (w : List ℕ). 0 ∷ w) (take-zeros m n (omega arith))

all_zero : (ds : List ℕ) → low_first ds ≡ 0 → ds ≡ zeros (length ds)
all_zero [] e = refl
all_zero (d ∷ ds) e =
    let k = low_first-cons d ds in
    let first : d ≡ 0 = omega arith in
    let rest : low_first ds ≡ 0 = omega arith in
    ap (λ (n : ℕ). n ∷ ds) first ∙ ap (λ (w : List ℕ). 0 ∷ w) (all_zero ds rest)

pub AreBytes-cons : (b : ℕ) (bs : List ℕ) → b < 256 → AreBytes bs → AreBytes (b ∷ bs)
AreBytes-cons b bs lt h zero = lt
AreBytes-cons b bs lt h (suc i) = h i

-- the word that the code takes from its array
pub word_of : (tag len : ℕ) → 1 ≤ len → len ≤ 16 → take (len + 3) (110 ∷ len ∷ 0 ∷ tag ∷ zeros 15) ≡ big_word len tag
word_of tag zero some short = absurd (omega arith)
word_of tag (suc m) some short =
    let n : suc m + 3 ≡ suc (suc (suc (suc m))) = omega arith in
    ap (λ (k : ℕ). take k (110 ∷ suc m ∷ 0 ∷ tag ∷ zeros 15)) n
    ∙ ap (λ (w : List ℕ). 110 ∷ suc m ∷ 0 ∷ tag ∷ w) (take-zeros m 15 (omega arith))
    ∙ ap (λ (k : ℕ). 110 ∷ suc m ∷ 0 ∷ tag ∷ zeros k) (let z : m ≡ suc m - 1 = omega arith in z)

-- ---- one number in the rows of integers

same_pos : (m n : ℕ) → pos m ≡ pos n → m ≡ n
same_pos m n e = cc

byte_row : (tag : ℕ) (b : List ℕ) → IsSmallInteger (pos tag) b → b ≡ 97 ∷ tag ∷ []
byte_row tag b s =
    s.bytes ∙ ap (λ (w : List ℕ). 97 ∷ w) (one_byte s.n s.field s.number)
    ∙ ap (λ (n : ℕ). 97 ∷ n ∷ []) (sym (same_pos tag s.n s.value))

four : (tag : ℕ) (b : List ℕ) → tag < 256 → IsNumber 4 tag b → b ≡ 0 ∷ 0 ∷ 0 ∷ tag ∷ []
four tag (a ∷ b ∷ c ∷ d ∷ []) lt s =
    let e : big_number 4 (a ∷ b ∷ c ∷ d ∷ []) ≡ tag = s.says in
    let a0 : a ≡ 0 = omega arith in
    let b0 : b ≡ 0 = omega arith in
    let c0 : c ≡ 0 = omega arith in
    let d0 : d ≡ tag = omega arith in
    rw (a0, b0, c0, d0) refl
four tag b lt s = absurd (let l = s.len in omega arith)

pub of_signed : (n z : ℕ) → n < 2 ^ 32 → pos z ≡ cast_signed w32 n → (n ≡ z) × (z < 2 ^ 31)
of_signed n z lt e =
    let low : FitsSigned w32 (cast_signed w32 n) = sfits_to_z {w = w32} {n = n} (record { fits = lt }) in
    let fits : FitsSigned w32 (pos z) = subst (FitsSigned w32) (sym e) low in
    let small : z < 2 ^ 31 = omega (arith, ints, fits) in
    let back : cast_unsigned w32 (pos z) ≡ z = omega (arith, ints) in
    (sym (of_z-to_z w32 n lt) ∙ ap (cast_unsigned w32) (sym e) ∙ back, small)

pub to_signed : (n : ℕ) → n < 2 ^ 31 → pos n ≡ cast_signed w32 n
to_signed n lt = omega (arith, ints)

pub below_word : (n : ℕ) (b : List ℕ) → IsNumber 4 n b → n < 2 ^ 32
below_word n b s =
    let e : big_number 4 b ≡ n = s.says in let k0 = s.bytes 0 in let k1 = s.bytes 1 in let k2 = s.bytes 2 in
    let k3 = s.bytes 3 in omega arith

word_row : (tag : ℕ) (b : List ℕ) → tag < 256 → IsInteger (pos tag) b → b ≡ 98 ∷ 0 ∷ 0 ∷ 0 ∷ tag ∷ []
word_row tag b lt s =
    let n = of_signed s.n tag (below_word s.n s.field s.number) s.value in
    s.bytes ∙ ap (λ (w : List ℕ). 98 ∷ w) (four tag s.field lt (subst (λ (k : ℕ). IsNumber 4 k s.field) n.0 s.number))

pub signed_is : (sign m z : ℕ) → sign ≤ 1 → 1 ≤ z → pos z ≡ signed sign m → (sign ≡ 0) × (z ≡ m)
signed_is zero m z le some e = (refl, same_pos z m e)
signed_is (suc zero) zero z le some e = absurd (let k : z ≡ 0 = same_pos z 0 e in omega arith)
signed_is (suc zero) (suc m) z le some e = absurd (let k : pos z ≡ negsuc m = e in cc)
signed_is (suc (suc sign)) m z le some e = absurd (omega arith)

digits_of : (tag : ℕ) (ds : List ℕ) → 1 ≤ tag → tag < 256 → low_first ds ≡ tag → (1 ≤ length ds) × (ds ≡ tag ∷ zeros (length ds - 1))
digits_of tag [] some lt e = absurd (omega arith)
digits_of tag (d ∷ ds) some lt e =
    let k = low_first-cons d ds in
    let rest : low_first ds ≡ 0 = omega arith in
    let first : d ≡ tag = omega arith in
    let n : length ds ≡ suc (length ds) - 1 = omega arith in
    (omega arith, ap (λ (i : ℕ). i ∷ ds) first ∙ ap (λ (w : List ℕ). tag ∷ w) (all_zero ds rest ∙ ap zeros n))

pub big_row : (tag : ℕ) (b : List ℕ) → 1 ≤ tag → tag < 256 → IsBigTag tag b → (len : ℕ) × (1 ≤ len) × (len ≤ 16) × (b ≡ big_word len tag)
big_row tag b some lt s =
    let v = signed_is s.sign (low_first s.magnitude) tag s.is_sign some s.value in
    let d = digits_of tag s.magnitude some lt (sym v.1) in (
      length s.magnitude,
      d.0,
      s.short,
      s.bytes ∙ ap (λ (i : ℕ). 110 ∷ length s.magnitude ∷ i ∷ s.magnitude) v.0
          ∙ ap (λ (w : List ℕ). 110 ∷ length s.magnitude ∷ 0 ∷ w) d.1,
    )

pub row_byte : (tag : ℕ) → tag < 256 → IsTagText tag (97 ∷ tag ∷ [])
row_byte tag lt = inl (record { n = tag; field = tag ∷ []; number = byte_number tag lt; value = refl; bytes = refl })

pub four_is : (tag : ℕ) → tag < 256 → IsNumber 4 tag (0 ∷ 0 ∷ 0 ∷ tag ∷ [])
four_is tag lt = record { len = refl; bytes = fits; says = omega arith }
  where
    nil : AreBytes []
    nil i = let e : get_or {A = ℕ} [] i 0 ≡ 0 = get_or_past [] i 0 (omega arith) in omega arith

    fits : AreBytes (0 ∷ 0 ∷ 0 ∷ tag ∷ [])
    fits =
        AreBytes-cons 0 (0 ∷ 0 ∷ tag ∷ []) (omega arith)
        (AreBytes-cons 0 (0 ∷ tag ∷ []) (omega arith) (AreBytes-cons 0 (tag ∷ []) (omega arith) (AreBytes-cons tag [] lt nil)))

row_word : (tag : ℕ) → tag < 256 → IsTagText tag (98 ∷ 0 ∷ 0 ∷ 0 ∷ tag ∷ [])
row_word tag lt = inr (inl (record {
  n = tag;
  field = 0 ∷ 0 ∷ 0 ∷ tag ∷ [];
  number = four_is tag lt;
  value = to_signed tag (omega arith);
  bytes = refl;
}))

pub row_big : (tag len : ℕ) → tag < 256 → 1 ≤ len → len ≤ 16 → IsBigTag tag (big_word len tag)
row_big tag len lt some short =
    let l = length-zeros (len - 1) in
    let k = low_first-cons tag (zeros (len - 1)) in
    let z = low_first-zeros (len - 1) in
    let m : low_first (tag ∷ zeros (len - 1)) ≡ tag = omega arith in
    let n : length (tag ∷ zeros (len - 1)) ≡ len = omega arith in
    record {
      sign = 0;
      magnitude = tag ∷ zeros (len - 1);
      is_sign = omega arith;
      short = omega arith;
      are_bytes = AreBytes-cons tag (zeros (len - 1)) lt (zeros_are_bytes (len - 1));
      in_range = omega arith;
      value = ap pos (sym m);
      bytes = ap (λ (i : ℕ). 110 ∷ i ∷ 0 ∷ tag ∷ zeros (len - 1)) (sym n);
    }

-- ---- beginnings

-- bytes that begin such a word say how long it is, or begin the shortest
pub big_by_second : (tag second : ℕ) (bytes rest : List ℕ) (first : ℕ) → bytes ≡ first ∷ second ∷ rest → 1 ≤ tag → tag < 256
    → Starts (IsBigTag tag) bytes → (1 ≤ second) × (second ≤ 16) × Starts (λ b. b ≡ big_word second tag) bytes
big_by_second tag second bytes rest first e some lt (more, s) =
    let w = big_row tag (bytes ++ more) some lt s in
    let same : first ∷ second ∷ (rest ++ more) ≡ 110 ∷ w.0 ∷ 0 ∷ tag ∷ zeros (w.0 - 1) =
    ap (λ (v : List ℕ). v ++ more) (sym e) ∙ w.3 in
    let k : w.0 ≡ second = cc in
    (subst (λ (n : ℕ). 1 ≤ n) k w.1, subst (λ (n : ℕ). n ≤ 16) k w.2, (more, w.3 ∙ ap (λ (n : ℕ). big_word n tag) k))

pub big_by_shortest : (tag : ℕ) (bytes : List ℕ) → length bytes < 2 → 1 ≤ tag → tag < 256
    → Starts (IsBigTag tag) bytes → Starts (λ b. b ≡ big_word 1 tag) bytes
big_by_shortest tag [] short some lt s = (big_word 1 tag, refl)
big_by_shortest tag (x ∷ []) short some lt (more, s) =
    let w = big_row tag (x ∷ more) some lt s in
    let same : x ∷ more ≡ 110 ∷ w.0 ∷ 0 ∷ tag ∷ zeros (w.0 - 1) = w.3 in
    let k : x ≡ 110 = cc in
    (1 ∷ 0 ∷ tag ∷ [], ap (λ (n : ℕ). n ∷ 1 ∷ 0 ∷ tag ∷ []) k)
big_by_shortest tag (x ∷ y ∷ bytes) short some lt s = absurd (omega arith)

pub big_back : (tag len : ℕ) (bytes : List ℕ) → tag < 256 → (1 ≤ len) × (len ≤ 16) × Starts (λ b. b ≡ big_word len tag) bytes
    → Starts (IsBigTag tag) bytes
big_back tag len bytes lt (some, short, (more, e)) = (more, subst (IsBigTag tag) (sym e) (row_big tag len lt some short))

-- the three rows
pub byte_begun : (tag : ℕ) (bytes : List ℕ) → tag < 256 → Starts (λ w. w ≡ 97 ∷ tag ∷ []) bytes → Starts (IsTagText tag) bytes
byte_begun tag bytes lt s = (s.0, subst (IsTagText tag) (sym s.1) (row_byte tag lt))

pub word_begun : (tag : ℕ) (bytes : List ℕ) → tag < 256 → Starts (λ w. w ≡ 98 ∷ 0 ∷ 0 ∷ 0 ∷ tag ∷ []) bytes
    → Starts (IsTagText tag) bytes
word_begun tag bytes lt s = (s.0, subst (IsTagText tag) (sym s.1) (row_word tag lt))

pub big_else : (tag : ℕ) (bytes : List ℕ) (b : Bool) → tag < 256 → (Starts (λ w. w ≡ 97 ∷ tag ∷ []) bytes → ⊥)
    → (Starts (λ w. w ≡ 98 ∷ 0 ∷ 0 ∷ 0 ∷ tag ∷ []) bytes → ⊥) → Tells b (IsBigTag tag) bytes → Tells b (IsTagText tag) bytes
big_else tag bytes b lt no_byte no_word r = (λ y. let s = r.0 y in (s.0, inr (inr s.1)), from)
  where
    from : Starts (IsTagText tag) bytes → IsTrue b
    from (more, inl s) = absurd (no_byte (more, byte_row tag (bytes ++ more) s))
    from (more, inr (inl s)) = absurd (no_word (more, word_row tag (bytes ++ more) lt s))
    from (more, inr (inr s)) = r.1 (more, s)

pub tag_some : (tag : ℕ) → tag < 256 → (b : List ℕ) × IsTagText tag b
tag_some tag lt = (97 ∷ tag ∷ [], row_byte tag lt)

-- ---- behind lists

pub tag_other : (tag : ℕ) (b : List ℕ) → IsTagText tag b → IsOther b
tag_other tag b (inl s) = (97, s.field, (λ e. omega arith), s.bytes)
tag_other tag b (inr (inl s)) = (98, s.field, (λ e. omega arith), s.bytes)
tag_other tag b (inr (inr s)) = (110, length s.magnitude ∷ s.sign ∷ s.magnitude, (λ e. omega arith), s.bytes)

pub tag_deep : (levels tag : ℕ) (b : List ℕ) → IsTagAt levels tag b → Deep (IsTagText tag) levels b
tag_deep levels tag b s =
    let h = spelled_behind (int (pos tag)) levels b refl s in
    record { k = h.k; below = h.below; text = h.text; is_text = h.is_text; depth = h.depth; bytes = h.bytes }

pub deep_tag : (levels tag : ℕ) (b : List ℕ) → Deep (IsTagText tag) levels b → IsTagAt levels tag b
deep_tag levels tag b h =
    behind_spelled (int (pos tag)) levels b
    (record { k = h.k; below = h.below; text = h.text; is_text = h.is_text; depth = h.depth; bytes = h.bytes })

pub front_two : (bytes : List ℕ) → 2 ≤ length bytes → (rest : List ℕ) × (bytes ≡ get_or bytes 0 0 ∷ get_or bytes 1 0 ∷ rest)
front_two [] le = absurd (omega arith)
front_two (x ∷ []) le = absurd (omega arith)
front_two (x ∷ y ∷ rest) le = (rest, refl)
