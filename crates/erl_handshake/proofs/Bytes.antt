-- Numbers and counted texts at the front of bytes.
use Rattle.std.proofs.Common.{◌≡◌, ℕ, ◌+◌, ◌<◌, ◌≤◌, ◌^◌, List, [], ◌∷◌, ◌++◌, length, take, drop, ap, sym}
use Rattle.std.proofs.Common.{refl, subst, ◌∙◌, append_assoc, arith, length-take, length-append, length-drop}
use Rattle.std.proofs.Common.{◌⊎◌, inl, inr, ◌-◌, Option, Some, None, MatchOption, Bor, slice_range}
use Rattle.std.proofs.lemmas.Bool.{cases_lt}
use Rattle.std.specs.Int.{to_be_bytes, from_be_bytes, w16, w32, w64}
use Rattle.std.proofs.lemmas.Nat.{from_be_bytes-to_be_bytes_2, from_be_bytes-to_be_bytes_4}
use Rattle.std.proofs.lemmas.Nat.{from_be_bytes-to_be_bytes_8, be_bytes_2, be_bytes_4, be_bytes_8}
use Rattle.std.proofs.lemmas.List.{take-append-drop}
use Rattle.readers.specs.Reading.{AreBytes}
use Rattle.readers.proofs.Places.{AreBytes-front}
use Rattle.readers.proofs.Sequence.{AreBytes-split}
use Rattle.erl_handshake.specs.Messages.{counted}
use Rattle.erl_handshake.specs.Answer.{IsBegun, HasBody}

-- ---- fronts

-- two texts that are the same have the same fronts of one length
pub same_fronts : (a b r s : List ℕ) → length a ≡ length b → a ++ r ≡ b ++ s → (a ≡ b) × (r ≡ s)
same_fronts [] [] r s l e = (refl, e)
same_fronts [] (y ∷ b) r s l e = absurd (omega arith)
same_fronts (x ∷ a) [] r s l e = absurd (omega arith)
same_fronts (x ∷ a) (y ∷ b) r s l e =
    let tail : a ++ r ≡ b ++ s = cc in
    let head : x ≡ y = cc in
    let t = same_fronts a b r s (omega arith) tail in
    (ap (λ (k : ℕ). k ∷ a) head ∙ ap (λ (w : List ℕ). y ∷ w) t.0, t.1)

pub bytes_front : (bytes : List ℕ) (n : ℕ) → AreBytes bytes → AreBytes (take n bytes)
bytes_front bytes n h = AreBytes-front (take n bytes) (drop n bytes) (subst AreBytes (sym (take-append-drop n bytes)) h)

pub bytes_rest : (bytes : List ℕ) (n : ℕ) → AreBytes bytes → AreBytes (drop n bytes)
bytes_rest bytes n h = AreBytes-split bytes (take n bytes) (drop n bytes) h (sym (take-append-drop n bytes))

-- ---- numbers

with_front : (bytes field rest number : List ℕ) (n : ℕ) → number ≡ field → field ≡ take n bytes → rest ≡ drop n bytes
    → bytes ≡ number ++ rest
with_front bytes field rest number n e f r =
    sym (take-append-drop n bytes) ∙ ap (λ (w : List ℕ). w ++ drop n bytes) (sym (e ∙ f)) ∙ ap (λ (w : List ℕ). number ++ w) (sym r)

pub front_len : (bytes field : List ℕ) (n : ℕ) → n ≤ length bytes → field ≡ take n bytes → length field ≡ n
front_len bytes field n le f = ap length f ∙ length-take n bytes ∙ omega arith

pub split_2 : (bytes field rest : List ℕ) (n : ℕ) → AreBytes bytes → 2 ≤ length bytes → field ≡ take 2 bytes
    → rest ≡ drop 2 bytes → n ≡ from_be_bytes w16 field → bytes ≡ to_be_bytes w16 n ++ rest
split_2 bytes field rest n h le f r e =
    with_front bytes field rest (to_be_bytes w16 n) 2
    (be_bytes_2 field n (front_len bytes field 2 le f) (subst AreBytes (sym f) (bytes_front bytes 2 h)) e) f r

pub split_4 : (bytes field rest : List ℕ) (n : ℕ) → AreBytes bytes → 4 ≤ length bytes → field ≡ take 4 bytes
    → rest ≡ drop 4 bytes → n ≡ from_be_bytes w32 field → bytes ≡ to_be_bytes w32 n ++ rest
split_4 bytes field rest n h le f r e =
    with_front bytes field rest (to_be_bytes w32 n) 4
    (be_bytes_4 field n (front_len bytes field 4 le f) (subst AreBytes (sym f) (bytes_front bytes 4 h)) e) f r

pub split_8 : (bytes field rest : List ℕ) (n : ℕ) → AreBytes bytes → 8 ≤ length bytes → field ≡ take 8 bytes
    → rest ≡ drop 8 bytes → n ≡ from_be_bytes w64 field → bytes ≡ to_be_bytes w64 n ++ rest
split_8 bytes field rest n h le f r e =
    with_front bytes field rest (to_be_bytes w64 n) 8
    (be_bytes_8 field n (front_len bytes field 8 le f) (subst AreBytes (sym f) (bytes_front bytes 8 h)) e) f r

pub one_number_2 : (x y : ℕ) (r s : List ℕ) → x < 2 ^ 16 → y < 2 ^ 16 → to_be_bytes w16 x ++ r ≡ to_be_bytes w16 y ++ s → (x ≡ y) × (r ≡ s)
one_number_2 x y r s p q e =
    let t = same_fronts (to_be_bytes w16 x) (to_be_bytes w16 y) r s refl e in
    (sym (from_be_bytes-to_be_bytes_2 x p) ∙ ap (from_be_bytes w16) t.0 ∙ from_be_bytes-to_be_bytes_2 y q, t.1)

pub one_number_4 : (x y : ℕ) (r s : List ℕ) → x < 2 ^ 32 → y < 2 ^ 32 → to_be_bytes w32 x ++ r ≡ to_be_bytes w32 y ++ s → (x ≡ y) × (r ≡ s)
one_number_4 x y r s p q e =
    let t = same_fronts (to_be_bytes w32 x) (to_be_bytes w32 y) r s refl e in
    (sym (from_be_bytes-to_be_bytes_4 x p) ∙ ap (from_be_bytes w32) t.0 ∙ from_be_bytes-to_be_bytes_4 y q, t.1)

pub one_number_8 : (x y : ℕ) (r s : List ℕ) → x < 2 ^ 64 → y < 2 ^ 64 → to_be_bytes w64 x ++ r ≡ to_be_bytes w64 y ++ s → (x ≡ y) × (r ≡ s)
one_number_8 x y r s p q e =
    let t = same_fronts (to_be_bytes w64 x) (to_be_bytes w64 y) r s refl e in
    (sym (from_be_bytes-to_be_bytes_8 x p) ∙ ap (from_be_bytes w64) t.0 ∙ from_be_bytes-to_be_bytes_8 y q, t.1)

-- ---- counted texts

pub one_counted : (a b r s : List ℕ) → length a < 2 ^ 16 → length b < 2 ^ 16 → counted a ++ r ≡ counted b ++ s → (a ≡ b) × (r ≡ s)
one_counted a b r s p q e =
    let n =
    one_number_2 (length a) (length b) (a ++ r) (b ++ s) p q
    (sym (append_assoc (to_be_bytes w16 (length a)) a r) ∙ e ∙ append_assoc (to_be_bytes w16 (length b)) b s) in
    same_fronts a b r s n.0 n.1

pub one_body : (bytes a b : List ℕ) → HasBody bytes a → HasBody bytes b → a ≡ b
one_body bytes a b p q = (one_counted a b p.rest q.rest p.short q.short (sym p.parts ∙ q.parts)).0

pub length-counted : (a : List ℕ) → length (counted a) ≡ 2 + length a
length-counted a = length-append (to_be_bytes w16 (length a)) a

-- a body that is all there isn't only begun
pub begun_or_not : (bytes body : List ℕ) → HasBody bytes body → IsBegun bytes → ⊥
begun_or_not bytes body h b =
    let long : length bytes ≡ 2 + length body + length h.rest =
    ap length h.parts ∙ length-append (counted body) h.rest ∙ ap (λ (k : ℕ). k + length h.rest) (length-counted body) in
    let says : from_be_bytes w16 (take 2 bytes) ≡ length body =
    ap (λ (w : List ℕ). from_be_bytes w16 (take 2 w)) h.parts ∙ from_be_bytes-to_be_bytes_2 (length body) h.short in
    elim b [ inl few ↦ omega arith | inr few ↦ omega arith ]

-- of bytes that aren't only begun the body
pub whole_body : (bytes body : List ℕ) (n : ℕ) → AreBytes bytes → 2 ≤ length bytes → n ≡ from_be_bytes w16 (take 2 bytes)
    → n < 2 ^ 16 → n ≤ length (drop 2 bytes) → body ≡ take n (drop 2 bytes) → HasBody bytes body
whole_body bytes body n h le e small enough f =
    let len : length body ≡ n = front_len (drop 2 bytes) body n enough f in
    record {
      rest = drop n (drop 2 bytes);
      short = omega arith;
      parts =
          split_2 bytes (take 2 bytes) (drop 2 bytes) n h le refl refl e
          ∙ ap (λ (k : ℕ). to_be_bytes w16 k ++ drop 2 bytes) (sym len)
          ∙ ap (λ (w : List ℕ). to_be_bytes w16 (length body) ++ w)
          (sym (take-append-drop n (drop 2 bytes)) ∙ ap (λ (w : List ℕ). w ++ drop n (drop 2 bytes)) (sym f))
          ∙ sym (append_assoc (to_be_bytes w16 (length body)) body (drop n (drop 2 bytes)));
    }

-- the bytes are begun, or a body is all there
pub begun_or_whole : (bytes : List ℕ) → AreBytes bytes → IsBegun bytes ⊎ ((body : List ℕ) × HasBody bytes body)
begun_or_whole bytes h =
    elim (cases_lt (length bytes) 2) [
      | inl few ↦ inl (inl few)
      | inr le ↦
          elim (cases_lt (length bytes) (2 + from_be_bytes w16 (take 2 bytes))) [
            | inl few ↦ inl (inr few)
            | inr all ↦
                let n = from_be_bytes w16 (take 2 bytes) in
                inr (
                  take n (drop 2 bytes),
                  whole_body bytes (take n (drop 2 bytes)) n h le refl (number_small bytes h) (omega (arith, length-drop 2 bytes)) refl,
                )
          ]
    ]
  where
    number_small : (bytes : List ℕ) → AreBytes bytes → from_be_bytes w16 (take 2 bytes) < 2 ^ 16
    number_small bytes h = let a = bytes_front bytes 2 h 0 in let b = bytes_front bytes 2 h 1 in omega arith

-- what a lookup of the counted bytes tells
pub whole_or_begun : (bytes rest : List ℕ) (n : ℕ) (r : Option (Bor (List ℕ))) → AreBytes bytes → 2 ≤ length bytes
    → rest ≡ drop 2 bytes → n ≡ from_be_bytes w16 (take 2 bytes) → n < 2 ^ 16
    → MatchOption r ((n < 0) ⊎ (length rest < n))
    (λ x. (0 ≤ n) × (n ≤ length rest) × (x.now ≡ slice_range rest 0 n) × (length x.now + 0 ≡ n))
    → MatchOption r (IsBegun bytes) (λ body. HasBody bytes body.now)
whole_or_begun bytes rest n None h le f e small few =
    inr (elim few [ inl low ↦ absurd (omega arith) | inr short ↦ omega (arith, ap length f ∙ length-drop 2 bytes) ])
whole_or_begun bytes rest n (Some x) h le f e small all =
    whole_body bytes x.now n h le e small (let a = all.1 in let b = ap length f in omega arith)
    (all.2 ∙ ap (λ (k : ℕ). take k rest) (let z : n - 0 ≡ n = omega arith in z) ∙ ap (λ (w : List ℕ). take n w) f)
