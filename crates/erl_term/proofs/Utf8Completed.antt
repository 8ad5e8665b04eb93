-- Bytes that may become the text of an atom begin one.
use Rattle.std.proofs.Common.{[], eqb, ◌≡◌, ℕ, zero, suc, ◌+◌, ◌-◌, ◌*◌, ◌/◌, ◌%◌, ◌<◌, ◌≤◌, Bool, true, false, cond, ltb, leb, ◌&&◌, List}
use Rattle.std.proofs.Common.{◌∷◌, ◌++◌, length, take, drop, Option, Some, None, refl, sym, ap, ◌∙◌, append_assoc, arith, inl, inr, ◌⊎◌}
use Rattle.std.specs.Prelude.{is_none}
use Rattle.std.specs.Str.{IsUtf8, is_utf8, chars}
use Rattle.std.specs.Str.Lossy.{utf8_valid_len, utf8_error_len, valid_len_up_to}
use Rattle.std.proofs.lemmas.Bool.{cases_lt, le-ltb, le-leb, lt-ltb, leb-true, ltb-true, and_parts, and_from}
use Rattle.std.proofs.lemmas.List.{append-nil, take-append-drop, length-append, length-take}
use Rattle.std.proofs.lemmas.Str.{IsUtf8-from_is_utf8, IsUtf8-nil, utf8_valid_len_le, chars_from_encodes}
use lib.Utf8.{scalar, scalars, next, encode, encodes}
use Rattle.erl_term.specs.Text.{has_room, char_len, goes_on, may_become_text}
use Rattle.erl_term.proofs.Utf8.{Completes, one, two, three, four}
use Rattle.erl_term.proofs.Utf8Begun.{low, high, high_le, char_len2, char_len3, char_len4, chars_of, encodes-append}

-- ---- what may become a text does

none_if : (p : Bool) (x : Option ℕ) (k : ℕ) → is_none (cond p x (Some k)) ≡ true → (p ≡ true) × (is_none x ≡ true)
none_if true x k e = (refl, e)
none_if false x k e = absurd cc

range_of : (lo hi x : ℕ) → (leb lo x && leb x hi) ≡ true → (lo ≤ x) × (x ≤ hi)
range_of lo hi x e = let p = and_parts (leb lo x) (leb x hi) e in (leb-true lo x p.0, leb-true x hi p.1)

of_part1 : (b : ℕ) → is_none (utf8_error_len (b ∷ [])) ≡ true → (194 ≤ b) × (b ≤ 244)
unfolding utf8_error_len
of_part1 b e = range_of 194 244 b (none_if (leb 194 b && leb b 244) None 1 e).0

of_part2 : (b x : ℕ) → is_none (utf8_error_len (b ∷ x ∷ [])) ≡ true → (194 ≤ b) × (b ≤ 244) × (low b ≤ x) × (x ≤ high b)
unfolding utf8_error_len
of_part2 b x e =
    let p = none_if (leb 194 b && leb b 244) (cond (leb (low b) x && leb x (high b)) None (Some 1)) 1 e in
    let r = range_of 194 244 b p.0 in
    let q = range_of (low b) (high b) x (none_if (leb (low b) x && leb x (high b)) None 1 p.1).0 in
    (r.0, r.1, q.0, q.1)

of_part3 : (b x y : ℕ) → is_none (utf8_error_len (b ∷ x ∷ y ∷ [])) ≡ true → (194 ≤ b) × (b ≤ 244) × (low b ≤ x) × (x ≤ high b)
    × (128 ≤ y) × (y ≤ 191)
unfolding utf8_error_len
of_part3 b x y e =
    let p =
    none_if (leb 194 b && leb b 244)
    (cond (leb (low b) x && leb x (high b)) (cond (leb 128 y && leb y 191) None (Some 2)) (Some 1)) 1 e in
    let r = range_of 194 244 b p.0 in
    let q = none_if (leb (low b) x && leb x (high b)) (cond (leb 128 y && leb y 191) None (Some 2)) 1 p.1 in
    let s = range_of (low b) (high b) x q.0 in
    let t = range_of 128 191 y (none_if (leb 128 y && leb y 191) None 2 q.1).0 in
    (r.0, r.1, s.0, s.1, t.0, t.1)

scalar-true : (c : ℕ) → (c < 55296) ⊎ ((57344 ≤ c) × (c < 1114112)) → scalar c ≡ true
scalar-true c (inl h) = rw (lt-ltb c 55296 h) refl
scalar-true c (inr h) =
    let k : 55296 ≤ c = let l = h.0 in omega arith in rw (le-ltb c 55296 k, le-leb 57344 c h.0, lt-ltb c 1114112 h.1) refl

-- a character that a part begins
record Begun (part : List ℕ) (len : ℕ) : Type 0 where
  c : ℕ
  more : List ℕ
  is_scalar : scalar c ≡ true
  bytes : encode c ≡ part ++ more
  long : length (encode c) ≡ len

low_at : (b x : ℕ) → low b ≤ x → (b ≡ 224 → 160 ≤ x) × (b ≡ 240 → 144 ≤ x)
low_at b x h = (λ q. rw q at h, λ q. rw q at h)

high_at : (b x : ℕ) → x ≤ high b → (b ≡ 237 → x ≤ 159) × (b ≡ 244 → x ≤ 143)
high_at b x h = (λ q. rw q at h, λ q. rw q at h)

low_from : (p q : Bool) → (128 ≤ cond p 160 (cond q 144 128)) × (cond p 160 (cond q 144 128) ≤ 160)
low_from true q = (omega arith, omega arith)
low_from false true = (omega arith, omega arith)
low_from false false = (omega arith, omega arith)

high_to : (p q : Bool) → cond p 159 (cond q 143 191) ≤ 191
high_to true q = omega arith
high_to false true = omega arith
high_to false false = omega arith

char2 : (b : ℕ) → 194 ≤ b → b < 224 → Begun (b ∷ []) (char_len b)
char2 b l h =
    let t = two ((b - 192) * 64) (omega arith) (omega arith) in
    let e : 192 + (b - 192) * 64 / 64 ≡ b = omega arith in
    record {
      c = (b - 192) * 64;
      more = next ((b - 192) * 64) ∷ [];
      is_scalar = scalar-true ((b - 192) * 64) (inl (omega arith));
      bytes = t ∙ ap (λ (k : ℕ). k ∷ next ((b - 192) * 64) ∷ []) e;
      long = ap length t ∙ sym (char_len2 b (omega arith) h);
    }

three_bounds : (b x : ℕ) → 224 ≤ b → b < 240 → 128 ≤ x → x ≤ 191 → (b ≡ 224 → 160 ≤ x) → (b ≡ 237
    → x ≤ 159) → (2048 ≤ (b - 224) * 4096 + (x - 128) * 64) × (((b - 224) * 4096 + (x - 128) * 64 < 55296)
    ⊎ ((57344 ≤ (b - 224) * 4096 + (x - 128) * 64) × ((b - 224) * 4096 + (x - 128) * 64 < 1114112)))
three_bounds b x l h m n lo hi = (
  elim (cases_lt b 225) [ inl y ↦ let k : b ≡ 224 = omega arith in let z = lo k in omega arith | inr y ↦ omega arith ],
  elim (cases_lt b 237) [
    | inl y ↦ inl (omega arith)
    | inr y1 ↦ elim (cases_lt b 238)
        [ inl y2 ↦ let k : b ≡ 237 = omega arith in let z = hi k in inl (omega arith) | inr y3 ↦ inr (omega arith, omega arith) ]
  ],
)

three_at : (b x : ℕ) → 224 ≤ b → b < 240 → 128 ≤ x → x ≤ 191 → low b ≤ x → x ≤ high b
    → (scalar ((b - 224) * 4096 + (x - 128) * 64) ≡ true) × (encode ((b - 224) * 4096 + (x - 128) * 64) ≡ b ∷ x ∷ 128 ∷ [])
three_at b x l h m n o p =
    let bounds = three_bounds b x l h m n (low_at b x o).0 (high_at b x p).0 in
    let least = bounds.0 in
    let t = three ((b - 224) * 4096 + (x - 128) * 64) least (omega arith) in
    let e0 : 224 + ((b - 224) * 4096 + (x - 128) * 64) / 4096 ≡ b = omega arith in
    let e1 : 128 + ((b - 224) * 4096 + (x - 128) * 64) / 64 % 64 ≡ x = omega arith in
    let e2 : 128 + ((b - 224) * 4096 + (x - 128) * 64) % 64 ≡ 128 = omega arith in
    (scalar-true ((b - 224) * 4096 + (x - 128) * 64) bounds.1, t ∙ three_cells e0 e1 e2)
  where
    three_cells : {a b c d e f : ℕ} → a ≡ d → b ≡ e → c ≡ f → a ∷ b ∷ c ∷ [] ≡ d ∷ e ∷ f ∷ []
    three_cells p q r = cc

four_bounds : (b x y : ℕ) → 240 ≤ b → b ≤ 244 → 128 ≤ x → x ≤ 191 → 128 ≤ y → y ≤ 191 → (b ≡ 240 → 144 ≤ x)
    → (b ≡ 244 → x ≤ 143) → (65536 ≤ (b - 240) * 262144 + (x - 128) * 4096 + (y - 128) * 64)
    × ((b - 240) * 262144 + (x - 128) * 4096 + (y - 128) * 64 < 1114112)
four_bounds b x y l h m n o p lo hi = (
  elim (cases_lt b 241) [ inl z ↦ let k : b ≡ 240 = omega arith in let w = lo k in omega arith | inr z ↦ omega arith ],
  elim (cases_lt b 244) [ inl z ↦ omega arith | inr z ↦ let k : b ≡ 244 = omega arith in let w = hi k in omega arith ],
)

four_at : (b x y : ℕ) → 240 ≤ b → b ≤ 244 → 128 ≤ x → x ≤ 191 → 128 ≤ y → y ≤ 191 → low b ≤ x → x ≤ high b
    → (scalar ((b - 240) * 262144 + (x - 128) * 4096 + (y - 128) * 64) ≡ true)
    × (encode ((b - 240) * 262144 + (x - 128) * 4096 + (y - 128) * 64) ≡ b ∷ x ∷ y ∷ 128 ∷ [])
four_at b x y l h m n o p q r =
    let bounds = four_bounds b x y l h m n o p (low_at b x q).1 (high_at b x r).1 in
    let least = bounds.0 in
    let most = bounds.1 in
    let t = four ((b - 240) * 262144 + (x - 128) * 4096 + (y - 128) * 64) least in
    let e0 : 240 + ((b - 240) * 262144 + (x - 128) * 4096 + (y - 128) * 64) / 262144 ≡ b = omega arith in
    let e1 : 128 + ((b - 240) * 262144 + (x - 128) * 4096 + (y - 128) * 64) / 4096 % 64 ≡ x = omega arith in
    let e2 : 128 + ((b - 240) * 262144 + (x - 128) * 4096 + (y - 128) * 64) / 64 % 64 ≡ y = omega arith in
    let e3 : 128 + ((b - 240) * 262144 + (x - 128) * 4096 + (y - 128) * 64) % 64 ≡ 128 = omega arith in
    (scalar-true ((b - 240) * 262144 + (x - 128) * 4096 + (y - 128) * 64) (inr (omega arith, most)), t ∙ four_cells e0 e1 e2 e3)
  where
    four_cells : {a b c d e f g h : ℕ} → a ≡ e → b ≡ f → c ≡ g → d ≡ h → a ∷ b ∷ c ∷ d ∷ [] ≡ e ∷ f ∷ g ∷ h ∷ []
    four_cells p q r s = cc

low_high : (p q r s : Bool) → cond p 160 (cond q 144 128) ≤ 191
low_high p q r s = let k = low_from p q in omega arith

low_le_high : (b : ℕ) → 224 ≤ b → low b ≤ high b
low_le_high b l =
    high_le b (low b) (λ q. rw q (omega arith)) (λ q. rw q (omega arith)) (let k = low_from (eqb b 224) (eqb b 240) in omega arith)

begun1 : (b : ℕ) → 194 ≤ b → b ≤ 244 → Begun (b ∷ []) (char_len b)
begun1 b l h =
    let k = low_from (eqb b 224) (eqb b 240) in
    elim (cases_lt b 224) as (λ _. Begun (b ∷ []) (char_len b)) [
      | inl lt ↦ char2 b l lt
      | inr le ↦ elim (cases_lt b 240) as (λ _. Begun (b ∷ []) (char_len b)) [
        | inl lt ↦
            let t = three_at b (low b) le lt k.0 (omega arith) (omega arith) (low_le_high b le) in
            record { c = _; more = low b ∷ 128 ∷ []; is_scalar = t.0; bytes = t.1; long = ap length t.1 ∙ sym (char_len3 b le lt) }
        | inr more ↦
            let t = four_at b (low b) 128 more h k.0 (omega arith) (omega arith) (omega arith) (omega arith) (low_le_high b le) in
            record { c = _; more = low b ∷ 128 ∷ 128 ∷ []; is_scalar = t.0; bytes = t.1; long = ap length t.1 ∙ sym (char_len4 b more) }
      ]
    ]

begun2 : (b x : ℕ) → 194 ≤ b → b ≤ 244 → low b ≤ x → x ≤ high b → 2 < char_len b → Begun (b ∷ x ∷ []) (char_len b)
begun2 b x l h m n long =
    let k = low_from (eqb b 224) (eqb b 240) in
    let j = high_to (eqb b 237) (eqb b 244) in
    elim (cases_lt b 224) as (λ _. Begun (b ∷ x ∷ []) (char_len b)) [
      | inl lt ↦ absurd (let z = char_len2 b (omega arith) lt in omega arith)
      | inr le ↦ elim (cases_lt b 240) as (λ _. Begun (b ∷ x ∷ []) (char_len b)) [
        | inl lt ↦
            let t = three_at b x le lt (omega arith) (omega arith) m n in
            record { c = _; more = 128 ∷ []; is_scalar = t.0; bytes = t.1; long = ap length t.1 ∙ sym (char_len3 b le lt) }
        | inr more ↦
            let t = four_at b x 128 more h (omega arith) (omega arith) (omega arith) (omega arith) m n in
            record { c = _; more = 128 ∷ 128 ∷ []; is_scalar = t.0; bytes = t.1; long = ap length t.1 ∙ sym (char_len4 b more) }
      ]
    ]

begun3 : (b x y : ℕ) → 194 ≤ b → b ≤ 244 → low b ≤ x → x ≤ high b → 128 ≤ y → y ≤ 191 → 3 < char_len b → Begun (b ∷ x ∷ y ∷ []) (char_len b)
begun3 b x y l h m n o p long =
    let k = low_from (eqb b 224) (eqb b 240) in
    let j = high_to (eqb b 237) (eqb b 244) in
    elim (cases_lt b 224) as (λ _. Begun (b ∷ x ∷ y ∷ []) (char_len b)) [
      | inl lt ↦ absurd (let z = char_len2 b (omega arith) lt in omega arith)
      | inr le ↦ elim (cases_lt b 240) as (λ _. Begun (b ∷ x ∷ y ∷ []) (char_len b)) [
        | inl lt ↦ absurd (let z = char_len3 b le lt in omega arith)
        | inr more ↦
            let t = four_at b x y more h (omega arith) (omega arith) o p m n in
            record { c = _; more = 128 ∷ []; is_scalar = t.0; bytes = t.1; long = ap length t.1 ∙ sym (char_len4 b more) }
      ]
    ]

len_most : (b : ℕ) → char_len b ≤ 4
len_most b =
    elim (cases_lt b 128) [
      | inl h1 ↦ rw (lt-ltb b 128 h1) (omega arith)
      | inr l1 ↦ elim (cases_lt b 224) [
        | inl h2 ↦ rw (le-ltb b 128 l1, lt-ltb b 224 h2) (omega arith)
        | inr l2 ↦ elim (cases_lt b 240) [
          | inl h3 ↦ rw (le-ltb b 128 l1, le-ltb b 224 l2, lt-ltb b 240 h3) (omega arith)
          | inr l3 ↦ rw (le-ltb b 128 l1, le-ltb b 224 l2, le-ltb b 240 l3) (omega arith)
        ]
      ]
    ]

begun : (b : ℕ) (rest : List ℕ) → is_none (utf8_error_len (b ∷ rest)) ≡ true → suc (length rest) < char_len b
    → Begun (b ∷ rest) (char_len b)
begun b [] e lt = let r = of_part1 b e in begun1 b r.0 r.1
begun b (x ∷ []) e lt = let r = of_part2 b x e in begun2 b x r.0 r.1 r.2 r.3 (omega arith)
begun b (x ∷ y ∷ []) e lt = let r = of_part3 b x y e in begun3 b x y r.0 r.1 r.2 r.3 r.4 r.5 (omega arith)
begun b (x ∷ y ∷ z ∷ rest) e lt = absurd (let k = len_most b in omega arith)

-- characters that take so many bytes, as few as serve
fill : ℕ → List ℕ
fill zero = []
fill (suc zero) = 0 ∷ []
fill (suc (suc zero)) = 128 ∷ []
fill (suc (suc (suc zero))) = 2048 ∷ []
fill (suc (suc (suc (suc r)))) = 65536 ∷ fill r

fill_scalars : (r : ℕ) → scalars (fill r) ≡ true
unfolding fill
fill_scalars (suc (suc (suc (suc r)))) = fill_scalars r
fill_scalars r = refl

fill_len : (r : ℕ) → length (encodes (fill r)) ≡ r
unfolding fill
fill_len zero = refl
fill_len (suc zero) = rw (one 0 (omega arith)) refl
fill_len (suc (suc zero)) = rw (two 128 (omega arith) (omega arith)) refl
fill_len (suc (suc (suc zero))) = rw (three 2048 (omega arith) (omega arith)) refl
fill_len (suc (suc (suc (suc r)))) =
    let e = ap length (four 65536 (omega arith)) in let k = fill_len r in omega (arith, length-append (encode 65536) (encodes (fill r)))

fill_count : (r : ℕ) → 4 * length (fill r) ≤ r + 3
unfolding fill
fill_count (suc (suc (suc (suc r)))) = let k = fill_count r in omega arith
fill_count r = omega arith

valid_up_to_utf8 : (bs : List ℕ) (n : ℕ) → IsUtf8 (take (valid_len_up_to bs n) bs)
valid_up_to_utf8 bs zero = IsUtf8-nil
valid_up_to_utf8 bs (suc n) = by (is_utf8 (take (suc n) bs)) refl (valid_up_to_utf8 bs n)
  where
    by : (t : Bool) → is_utf8 (take (suc n) bs) ≡ t → IsUtf8 (take (valid_len_up_to bs n) bs)
        → IsUtf8 (take (cond t (suc n) (valid_len_up_to bs n)) bs)
    by true e u = IsUtf8-from_is_utf8 (take (suc n) bs) e
    by false e u = u

front_utf8 : (bs : List ℕ) → IsUtf8 (take (utf8_valid_len bs) bs)
unfolding utf8_valid_len
front_utf8 bs = valid_up_to_utf8 bs (length bs)

scalars-append : (xs ys : List ℕ) → scalars xs ≡ true → scalars ys ≡ true → scalars (xs ++ ys) ≡ true
scalars-append [] ys s t = t
scalars-append (x ∷ xs) ys s t = let p = and_parts (scalar x) (scalars xs) s in and_from _ _ p.0 (scalars-append xs ys p.1 t)

-- characters that begin with the bytes make their text
completes_by : (n : ℕ) (bytes more cs : List ℕ) → scalars cs ≡ true → bytes ++ more ≡ encodes cs → length (encodes cs) ≡ n
    → length cs ≤ 255 → Completes n bytes
completes_by n bytes more cs s e len short =
    record { more = more; len = ap length e ∙ len; is_text = rw e (record { utf8 = (cs, (s, refl)); short = rw (chars_of cs s) short }) }

completes_at : (n : ℕ) (bytes done part : List ℕ) → scalars done ≡ true → bytes ≡ encodes done ++ part
    → length (encodes done) ≤ n → is_none (utf8_error_len part) ≡ true
    → goes_on (n - length (encodes done)) (length done) part ≡ true → Completes n bytes
completes_at n bytes done [] s e le cut goes =
    let p = and_parts (leb (length done) 255) (leb (n - length (encodes done)) (4 * (255 - length done))) goes in
    let c1 = leb-true (length done) 255 p.0 in
    let c2 = leb-true (n - length (encodes done)) (4 * (255 - length done)) p.1 in
    let r : ℕ = n - length (encodes done) in
    let k = fill_count (n - length (encodes done)) in
    let l = fill_len (n - length (encodes done)) in
    completes_by n bytes (encodes (fill (n - length (encodes done)))) (done ++ fill (n - length (encodes done)))
    (scalars-append done (fill (n - length (encodes done))) s (fill_scalars (n - length (encodes done))))
    (ap (λ (w : List ℕ). w ++ encodes (fill (n - length (encodes done)))) (e ∙ append-nil (encodes done))
    ∙ sym (encodes-append done (fill (n - length (encodes done)))))
    (ap length (encodes-append done (fill (n - length (encodes done))))
    ∙ omega (arith, length-append (encodes done) (encodes (fill (n - length (encodes done))))))
    (omega (arith, length-append done (fill (n - length (encodes done)))))
completes_at n bytes done (b ∷ rest) s e le cut goes =
    let p =
    and_parts (ltb (suc (length rest)) (char_len b))
    (leb (char_len b) (n - length (encodes done)) && has_room (suc (length done)) (n - length (encodes done) - char_len b)) goes in
    let q =
    and_parts (leb (char_len b) (n - length (encodes done))) (has_room (suc (length done)) (n - length (encodes done) - char_len b)) p.1 in
    let r = and_parts (leb (suc (length done)) 255) (leb (n - length (encodes done) - char_len b) (4 * (255 - suc (length done)))) q.1 in
    let c0 = ltb-true (suc (length rest)) (char_len b) p.0 in
    let c1 = leb-true (char_len b) (n - length (encodes done)) q.0 in
    let c2 = leb-true (suc (length done)) 255 r.0 in
    let c3 = leb-true (n - length (encodes done) - char_len b) (4 * (255 - suc (length done))) r.1 in
    let w = begun b rest cut c0 in
    let cs : List ℕ = w.c ∷ fill (n - length (encodes done) - char_len b) in
    let k = fill_count (n - length (encodes done) - char_len b) in
    let l = fill_len (n - length (encodes done) - char_len b) in
    let m = w.long in
    completes_by n bytes (w.more ++ encodes (fill (n - length (encodes done) - char_len b)))
    (done ++ w.c ∷ fill (n - length (encodes done) - char_len b))
    (scalars-append done (w.c ∷ fill (n - length (encodes done) - char_len b)) s
    (and_from _ _ w.is_scalar (fill_scalars (n - length (encodes done) - char_len b))))
    (regroup (encodes done) (b ∷ rest) w.more (encodes (fill (n - length (encodes done) - char_len b))) bytes (encode w.c) e w.bytes
    ∙ sym (encodes-append done (w.c ∷ fill (n - length (encodes done) - char_len b))))
    (ap length (encodes-append done (w.c ∷ fill (n - length (encodes done) - char_len b))) ∙ omega (
      arith,
      length-append (encodes done) (encodes (w.c ∷ fill (n - length (encodes done) - char_len b))),
      length-append (encode w.c) (encodes (fill (n - length (encodes done) - char_len b))),
    ))
    (omega (arith, length-append done (w.c ∷ fill (n - length (encodes done) - char_len b))))
  where
    regroup : (d part m f bytes c : List ℕ) → bytes ≡ d ++ part → c ≡ part ++ m → bytes ++ (m ++ f) ≡ d ++ (c ++ f)
    regroup d part m f bytes c p q = rw (p, q) (simp append_assoc)

pub completes : (n : ℕ) (bytes : List ℕ) → length bytes < n → may_become_text n bytes ≡ true → Completes n bytes
unfolding may_become_text
completes n bytes lt e =
    let v : ℕ = utf8_valid_len bytes in
    let u = front_utf8 bytes in
    let p =
    and_parts (is_none (utf8_error_len (drop (utf8_valid_len bytes) bytes)))
    (goes_on (n - utf8_valid_len bytes) (length (chars (take (utf8_valid_len bytes) bytes))) (drop (utf8_valid_len bytes) bytes)) e in
    let le = utf8_valid_len_le bytes in
    let len : length (encodes u.0) ≡ utf8_valid_len bytes = ap length u.1.1 ∙ omega (arith, length-take (utf8_valid_len bytes) bytes) in
    let cs : chars (take (utf8_valid_len bytes) bytes) ≡ u.0 = sym (chars_from_encodes u.0 (take (utf8_valid_len bytes) bytes) u u.1.1) in
    let goes : goes_on (n - length (encodes u.0)) (length u.0) (drop (utf8_valid_len bytes) bytes) ≡ true = rw (len, ← cs) p.1 in
    completes_at n bytes u.0 (drop (utf8_valid_len bytes) bytes) u.1.0
    (sym (take-append-drop (utf8_valid_len bytes) bytes) ∙ ap (λ (w : List ℕ). w ++ drop (utf8_valid_len bytes) bytes) (sym u.1.1))
    (omega arith) p.0 goes
