-- Bytes that the text of an atom begins with may become one.
use Rattle.std.proofs.Common.{[], eqb, ◌≡◌, ℕ, suc, ◌+◌, ◌-◌, ◌/◌, ◌%◌, ◌<◌, ◌≤◌, Bool, true, false, cond, List, ◌∷◌}
use Rattle.std.proofs.Common.{◌++◌, length, take, drop, refl, sym, ap, subst, ◌∙◌, append_assoc, arith, inl, inr, ◌⊎◌}
use Rattle.std.specs.Prelude.{is_none}
use Rattle.std.specs.Str.{chars}
use Rattle.std.specs.Str.Lossy.{utf8_valid_len, utf8_error_len}
use Rattle.std.proofs.lemmas.Bool.{cases_lt, eqb-true, le-ltb, le-leb, lt-ltb, and_from}
use Rattle.std.proofs.lemmas.List.{take_at, drop_at, drop_all, take_all, length-append}
use Rattle.std.proofs.lemmas.Str.{utf8_valid_len-IsUtf8, chars_from_encodes}
use lib.Utf8.{scalar, scalars, encode, encodes, scalar_cases}
use Rattle.erl_term.specs.Text.{char_len, goes_on, may_become_text}
use Rattle.erl_term.proofs.Utf8.{Completes, encodes_len, has_room-true, nothing_cut, Walk, at_seam, in_char}
use Rattle.erl_term.proofs.Utf8.{walk, one, two, three, four, scalars_split, scalars_front, valid_there}

-- ---- a part of a character

err1 : (b : ℕ) → 194 ≤ b → b ≤ 244 → is_none (utf8_error_len (b ∷ [])) ≡ true
unfolding utf8_error_len
err1 b l h = rw (le-leb 194 b l, le-leb b 244 h) refl

abbrev pub low : ℕ → ℕ
low b = cond (eqb b 224) 160 (cond (eqb b 240) 144 128)

abbrev pub high : ℕ → ℕ
high b = cond (eqb b 237) 159 (cond (eqb b 244) 143 191)

err2 : (b x : ℕ) → 194 ≤ b → b ≤ 244 → low b ≤ x → x ≤ high b → is_none (utf8_error_len (b ∷ x ∷ [])) ≡ true
unfolding utf8_error_len
err2 b x l h m n = rw (le-leb 194 b l, le-leb b 244 h, le-leb (low b) x m, le-leb x (high b) n) refl

err3 : (b x y : ℕ) → 194 ≤ b → b ≤ 244 → low b ≤ x → x ≤ high b → 128 ≤ y → y ≤ 191 → is_none (utf8_error_len (b ∷ x ∷ y ∷ [])) ≡ true
unfolding utf8_error_len
err3 b x y l h m n o p = rw (le-leb 194 b l, le-leb b 244 h, le-leb (low b) x m, le-leb x (high b) n, le-leb 128 y o, le-leb y 191 p) refl

low_le_at : (b x : ℕ) (p q : Bool) → eqb b 224 ≡ p → eqb b 240 ≡ q → (b ≡ 224 → 160 ≤ x) → (b ≡ 240 → 144 ≤ x) → 128 ≤ x
    → cond p 160 (cond q 144 128) ≤ x
low_le_at b x true q e f h k l = h (eqb-true b 224 e)
low_le_at b x false true e f h k l = k (eqb-true b 240 f)
low_le_at b x false false e f h k l = l

low_le : (b x : ℕ) → (b ≡ 224 → 160 ≤ x) → (b ≡ 240 → 144 ≤ x) → 128 ≤ x → low b ≤ x
low_le b x h k l = low_le_at b x _ _ refl refl h k l

high_le_at : (b x : ℕ) (p q : Bool) → eqb b 237 ≡ p → eqb b 244 ≡ q → (b ≡ 237 → x ≤ 159) → (b ≡ 244 → x ≤ 143) → x ≤ 191
    → x ≤ cond p 159 (cond q 143 191)
high_le_at b x true q e f h k l = h (eqb-true b 237 e)
high_le_at b x false true e f h k l = k (eqb-true b 244 f)
high_le_at b x false false e f h k l = l

pub high_le : (b x : ℕ) → (b ≡ 237 → x ≤ 159) → (b ≡ 244 → x ≤ 143) → x ≤ 191 → x ≤ high b
high_le b x h k l = high_le_at b x _ _ refl refl h k l

pub char_len2 : (b : ℕ) → 192 ≤ b → b < 224 → char_len b ≡ 2
char_len2 b l h = let k : 128 ≤ b = omega arith in rw (le-ltb b 128 k, lt-ltb b 224 h) refl

pub char_len3 : (b : ℕ) → 224 ≤ b → b < 240 → char_len b ≡ 3
char_len3 b l h = let k : 128 ≤ b = omega arith in rw (le-ltb b 128 k, le-ltb b 224 l, lt-ltb b 240 h) refl

pub char_len4 : (b : ℕ) → 240 ≤ b → char_len b ≡ 4
char_len4 b l = let k : 128 ≤ b = omega arith in let m : 224 ≤ b = omega arith in rw (le-ltb b 128 k, le-ltb b 224 m, le-ltb b 240 l) refl

-- less than a character
record Partial (c : ℕ) (part : List ℕ) : Type 0 where
  first : ℕ
  rest : List ℕ
  is : part ≡ first ∷ rest
  len : char_len first ≡ length (encode c)
  cut : is_none (utf8_error_len part) ≡ true

partial_at : (c k b : ℕ) (rest part : List ℕ) → part ≡ take k (encode c) → take k (encode c) ≡ b ∷ rest
    → char_len b ≡ length (encode c) → is_none (utf8_error_len (b ∷ rest)) ≡ true → Partial c part
partial_at c k b rest part p e l n = record {
  first = b;
  rest = rest;
  is = p ∙ e;
  len = l;
  cut = ap (λ (w : List ℕ). is_none (utf8_error_len w)) (p ∙ e) ∙ n;
}

partial_two : (c k : ℕ) (part : List ℕ) → 128 ≤ c → c < 2048 → k ≡ 1 → part ≡ take k (encode c) → Partial c part
partial_two c k part l h e p =
    let t = two c l h in
    partial_at c k (192 + c / 64) [] part p (rw (e, t) refl)
    (char_len2 (192 + c / 64) (omega arith) (omega arith) ∙ sym (ap length t))
    (err1 (192 + c / 64) (omega arith) (omega arith))

partial_three1 : (c k : ℕ) (part : List ℕ) → 2048 ≤ c → c < 65536 → k ≡ 1 → part ≡ take k (encode c) → Partial c part
partial_three1 c k part l h e p =
    let t = three c l h in
    partial_at c k (224 + c / 4096) [] part p (rw (e, t) refl)
    (char_len3 (224 + c / 4096) (omega arith) (omega arith) ∙ sym (ap length t))
    (err1 (224 + c / 4096) (omega arith) (omega arith))

partial_three2 : (c k : ℕ) (part : List ℕ) → (c < 55296) ⊎ ((57344 ≤ c) × (c < 1114112)) → 2048 ≤ c → c < 65536 → k ≡ 2
    → part ≡ take k (encode c) → Partial c part
partial_three2 c k part s l h e p =
    let t = three c l h in
    let b : ℕ = 224 + c / 4096 in
    let x : ℕ = 128 + c / 64 % 64 in
    partial_at c k (224 + c / 4096) ((128 + c / 64 % 64) ∷ []) part p (rw (e, t) refl)
    (char_len3 (224 + c / 4096) (omega arith) (omega arith) ∙ sym (ap length t))
    (err2 (224 + c / 4096) (128 + c / 64 % 64) (omega arith) (omega arith)
    (low_le (224 + c / 4096) (128 + c / 64 % 64) (λ q. omega arith) (λ q. omega arith) (omega arith))
    (high_le (224 + c / 4096) (128 + c / 64 % 64)
    (λ q. elim s [ inl y ↦ omega arith | inr y ↦ absurd (let z = y.0 in omega arith) ]) (λ q. omega arith) (omega arith)))

partial_four : (c k : ℕ) (part : List ℕ) → c < 1114112 → 65536 ≤ c → (k ≡ 1) ⊎ ((k ≡ 2) ⊎ (k ≡ 3)) → part ≡ take k (encode c)
    → Partial c part
partial_four c k part h l (inl e) p =
    let t = four c l in
    partial_at c k (240 + c / 262144) [] part p (rw (e, t) refl)
    (char_len4 (240 + c / 262144) (omega arith) ∙ sym (ap length t)) (err1 (240 + c / 262144) (omega arith) (omega arith))
partial_four c k part h l (inr (inl e)) p =
    let t = four c l in
    partial_at c k (240 + c / 262144) ((128 + c / 4096 % 64) ∷ []) part p (rw (e, t) refl)
    (char_len4 (240 + c / 262144) (omega arith) ∙ sym (ap length t))
    (err2 (240 + c / 262144) (128 + c / 4096 % 64) (omega arith) (omega arith)
    (low_le (240 + c / 262144) (128 + c / 4096 % 64) (λ q. omega arith) (λ q. omega arith) (omega arith))
    (high_le (240 + c / 262144) (128 + c / 4096 % 64) (λ q. omega arith) (λ q. omega arith) (omega arith)))
partial_four c k part h l (inr (inr e)) p =
    let t = four c l in
    partial_at c k (240 + c / 262144) ((128 + c / 4096 % 64) ∷ (128 + c / 64 % 64) ∷ []) part p (rw (e, t) refl)
    (char_len4 (240 + c / 262144) (omega arith) ∙ sym (ap length t))
    (err3 (240 + c / 262144) (128 + c / 4096 % 64) (128 + c / 64 % 64) (omega arith) (omega arith)
    (low_le (240 + c / 262144) (128 + c / 4096 % 64) (λ q. omega arith) (λ q. omega arith) (omega arith))
    (high_le (240 + c / 262144) (128 + c / 4096 % 64) (λ q. omega arith) (λ q. omega arith) (omega arith)) (omega arith)
    (omega arith))

one_two : (k : ℕ) → 0 < k → k < 3 → (k ≡ 1) ⊎ (k ≡ 2)
one_two k l h = elim (cases_lt k 2) [ inl lt ↦ inl (omega arith) | inr le ↦ inr (omega arith) ]

one_three : (k : ℕ) → 0 < k → k < 4 → (k ≡ 1) ⊎ ((k ≡ 2) ⊎ (k ≡ 3))
one_three k l h =
    elim (cases_lt k 2)
    [ inl lt ↦ inl (omega arith) | inr le ↦ elim (cases_lt k 3) [ inl lt ↦ inr (inl (omega arith)) | inr le ↦ inr (inr (omega arith)) ] ]

below_all : (c : ℕ) → (c < 55296) ⊎ ((57344 ≤ c) × (c < 1114112)) → c < 1114112
below_all c (inl h) = omega arith
below_all c (inr h) = h.1

partial : (c : ℕ) (part p2 : List ℕ) → scalar c ≡ true → encode c ≡ part ++ p2 → 0 < length part → 0 < length p2 → Partial c part
partial c part p2 s e lt lt2 =
    let sc = scalar_cases c s in
    let p : part ≡ take (length part) (encode c) = sym (ap (take (length part)) e ∙ take_at part p2 (length part) refl) in
    let len : length (encode c) ≡ length part + length p2 = ap length e ∙ length-append part p2 in
    elim (cases_lt c 128) [
      | inl h1 ↦ absurd (omega (arith, ap length (one c h1)))
      | inr l1 ↦ elim (cases_lt c 2048) [
        | inl h2 ↦ partial_two c (length part) part l1 h2 (omega (arith, ap length (two c l1 h2))) p
        | inr l2 ↦ elim (cases_lt c 65536) [
          | inl h3 ↦
              let k = ap length (three c l2 h3) in
              elim (one_two (length part) lt (omega arith)) [
                | inl e1 ↦ partial_three1 c (length part) part l2 h3 e1 p
                | inr e2 ↦ partial_three2 c (length part) part sc l2 h3 e2 p
              ]
          | inr l3 ↦
              partial_four c (length part) part (below_all c sc) l3 (one_three (length part) lt (omega (arith, ap length (four c l3)))) p
        ]
      ]
    ]

pub chars_of : (cs : List ℕ) → scalars cs ≡ true → chars (encodes cs) ≡ cs
chars_of cs s = sym (chars_from_encodes cs (encodes cs) (cs, (s, refl)) refl)

pub encodes-append : (xs ys : List ℕ) → encodes (xs ++ ys) ≡ encodes xs ++ encodes ys
encodes-append [] ys = refl
encodes-append (x ∷ xs) ys =
    ap (λ (w : List ℕ). encode x ++ w) (encodes-append xs ys) ∙ sym (append_assoc (encode x) (encodes xs) (encodes ys))

completed_at : (n : ℕ) (bytes cs : List ℕ) → length bytes < n → length (encodes cs) ≡ n → scalars cs ≡ true → length cs ≤ 255
    → Walk bytes cs → may_become_text n bytes ≡ true
unfolding may_become_text
completed_at n bytes cs lt len s short (at_seam done rest p q) =
    let sd = scalars_front done rest (subst (λ (w : List ℕ). scalars w ≡ true) p s) in
    let v : utf8_valid_len bytes ≡ length bytes = utf8_valid_len-IsUtf8 bytes (done, (sd, sym q)) in
    let none : drop (length bytes) bytes ≡ [] = drop_all (length bytes) bytes (omega arith) in
    let whole : take (length bytes) bytes ≡ encodes done = take_all (length bytes) bytes (omega arith) ∙ q in
    let k = encodes_len rest in
    let l : n ≡ length (encodes done) + length (encodes rest) =
    sym len ∙ ap (λ (w : List ℕ). length (encodes w)) p ∙ ap length (encodes-append done rest)
    ∙ length-append (encodes done) (encodes rest) in
    let m : length cs ≡ length done + length rest = ap length p ∙ length-append done rest in
    let b : length bytes ≡ length (encodes done) = ap length q in
    rw (v, none, whole, nothing_cut, chars_of done sd) (has_room-true (length done) (n - length bytes) (omega arith) (omega arith))
completed_at n bytes cs lt len s short (in_char done c rest part p2 p q r t u) =
    let sp = scalars_split done c rest (subst (λ (w : List ℕ). scalars w ≡ true) p s) in
    let v = valid_there done c part p2 bytes sp.0 sp.1 q r t u in
    let back : drop (length (encodes done)) bytes ≡ part =
    ap (drop (length (encodes done))) q ∙ drop_at (encodes done) part (length (encodes done)) refl in
    let front : take (length (encodes done)) bytes ≡ encodes done =
    ap (take (length (encodes done))) q ∙ take_at (encodes done) part (length (encodes done)) refl in
    let w = partial c part p2 sp.1 r t u in
    let k = encodes_len rest in
    let l : n ≡ length (encodes done) + (length (encode c) + length (encodes rest)) =
    sym len ∙ ap (λ (w : List ℕ). length (encodes w)) p ∙ ap length (encodes-append done (c ∷ rest))
    ∙ length-append (encodes done) (encodes (c ∷ rest))
    ∙ ap (λ (j : ℕ). length (encodes done) + j) (length-append (encode c) (encodes rest)) in
    let m : length cs ≡ length done + suc (length rest) = ap length p ∙ length-append done (c ∷ rest) in
    let lc : length (encode c) ≡ length part + length p2 = ap length r ∙ length-append part p2 in
    let lp : length part ≡ suc (length w.rest) = ap length w.is in
    let goes : goes_on (n - length (encodes done)) (length done) part ≡ true = rw (w.is, w.len)
    (and_from _ _ (lt-ltb (suc (length w.rest)) (length (encode c)) (omega arith)) (and_from _ _
    (le-leb (length (encode c)) (n - length (encodes done)) (omega arith))
    (has_room-true (suc (length done)) (n - length (encodes done) - length (encode c)) (omega arith) (omega arith)))) in
    rw (v, back, front, chars_of done sp.0, w.cut) goes

pub completed : (n : ℕ) (bytes : List ℕ) → length bytes < n → Completes n bytes → may_become_text n bytes ≡ true
completed n bytes lt c =
    let u = c.is_text.utf8 in
    let same : u.0 ≡ chars (bytes ++ c.more) = chars_from_encodes u.0 (bytes ++ c.more) u u.1.1 in
    completed_at n bytes u.0 lt (ap length u.1.1 ∙ c.len) u.1.0
    (let k = ap length same in let s = c.is_text.short in omega arith) (walk u.0 bytes c.more (sym u.1.1))
