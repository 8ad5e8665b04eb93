-- Flags by their bits.
use Rattle.std.proofs.Common.{lit<, nat_lt, get_or, zero-mul, one-mul, ◌≡◌, ◌≢◌, ℕ, ◌*◌, ◌^◌, ◌<◌, ◌==◌, not, Bool, true}
use Rattle.std.proofs.Common.{false, min, max, [], ◌∷◌, bit_and, bit_or, ap, sym, refl, subst, ◌∙◌, arith, inl, inr}
use Rattle.std.specs.List.{AllPass}
use Rattle.std.specs.Int.{IsBitSet, bit_at}
use Rattle.std.proofs.lemmas.Bool.{ltb-true, eqb-true, eq-eqb, cases_eq, cases_lt}
use Rattle.std.proofs.lemmas.Nat.{pow_pos}
use Rattle.std.proofs.lemmas.Nat.Bits.{bit_at-lt, bit_at_and, bit_at_or, bit_at-pow_other, and_pow, same_from_bits}
use Rattle.std.proofs.lemmas.List.Elements.{All-nil, All-cons}
use Rattle.erl_handshake.specs.declared.flags.Flag.{Flag}
use Rattle.erl_handshake.specs.declared.flags.Flag.TheVariants.{ExtendedReferences, DistMonitor, DistMonitorName, ExtendedPidsPorts}
use Rattle.erl_handshake.specs.declared.flags.Flag.TheVariants.{Utf8Atoms, BigCreation, ExitPayload, Handshake23, UnlinkId, V4Nc}
use Rattle.erl_handshake.specs.Flags.{flag_value, offers, has_all_of, mandatory, mandatory_flags}

-- a bit is set where it is 1
bit_is : (n k : ℕ) → IsBitSet n k → bit_at n k ≡ 1
bit_is n k s = elim (cases_lt (bit_at n k) 1) [
  | inl low ↦ absurd (s (and_pow n k ∙ ap (λ (b : ℕ). b * 2 ^ k) (let e : bit_at n k ≡ 0 = omega arith in e) ∙ zero-mul (2 ^ k)))
  | inr high ↦ let lt = bit_at-lt n k in omega arith
]

is_set : (n k : ℕ) → bit_at n k ≡ 1 → IsBitSet n k
is_set n k e =
    λ z. let p : bit_and n (2 ^ k) ≡ 2 ^ k = and_pow n k ∙ ap (λ (b : ℕ). b * 2 ^ k) e ∙ one-mul (2 ^ k) in
    let q = pow_pos k in absurd (omega arith)

-- each bit of the second is set in the first
abbrev pub Covers : ℕ → ℕ → Type 0
Covers word required = (k : ℕ) → IsBitSet required k → IsBitSet word k

pub covers : (word required : ℕ) → has_all_of word required ≡ true → Covers word required
covers word required e = λ k s.
    let same : bit_and word required ≡ required = eqb-true (bit_and word required) required e in
    let one : bit_at required k ≡ 1 = bit_is required k s in
    let both : min (bit_at word k) (bit_at required k) ≡ 1 = sym (bit_at_and word required k) ∙ ap (λ (n : ℕ). bit_at n k) same ∙ one in
    is_set word k (let lt = bit_at-lt word k in omega arith)

bit_same : (word required k : ℕ) → Covers word required → min (bit_at word k) (bit_at required k) ≡ bit_at required k
bit_same word required k c = elim (cases_lt (bit_at required k) 1) [
  | inl low ↦ omega arith
  | inr high ↦
      let r : bit_at required k ≡ 1 = let lt = bit_at-lt required k in omega arith in
      let w : bit_at word k ≡ 1 = bit_is word k (c k (is_set required k r)) in
      omega arith
]

pub has_all : (word required : ℕ) → Covers word required → has_all_of word required ≡ true
has_all word required c =
    let same : bit_and word required ≡ required =
    same_from_bits (bit_and word required) required (λ k. bit_at_and word required k ∙ bit_same word required k c) in
    rw same (eq-eqb required required refl)

-- ---- the mandatory flags

abbrev PassAll : ℕ → Type 0
PassAll word = AllPass (offers word) mandatory_flags

not_zero : (n : ℕ) → n ≢ 0 → not (n == 0) ≡ true
not_zero n ne = by (n == 0) refl
  where
    by : (b : Bool) → (n == 0) ≡ b → not b ≡ true
    by true e = absurd (ne (eqb-true n 0 e))
    by false e = refl

is_zero : (n : ℕ) → not (n == 0) ≡ true → n ≢ 0
is_zero n e = λ z. let k : not (0 == 0) ≡ true = subst (λ (m : ℕ). not (m == 0) ≡ true) z e in let l : false ≡ true = k in absurd cc

covers_or : (word a b : ℕ) → Covers word a → Covers word b → Covers word (bit_or a b)
covers_or word a b p q = λ k s.
    let one : max (bit_at a k) (bit_at b k) ≡ 1 = sym (bit_at_or a b k) ∙ bit_is (bit_or a b) k s in
    elim (cases_lt (bit_at a k) 1) [
      | inl low ↦ q k (is_set b k (omega arith))
      | inr high ↦ p k (is_set a k (let lt = bit_at-lt a k in omega arith))
    ]

covers_bit : (word n : ℕ) → IsBitSet word n → Covers word (2 ^ n)
covers_bit word n s = λ k t.
    elim (cases_eq k n) [
      | inl e ↦ subst (λ (m : ℕ). IsBitSet word m) (sym e) s
      | inr ne ↦ absurd (let one : bit_at (2 ^ n) k ≡ 1 = bit_is (2 ^ n) k t in let none = bit_at-pow_other n k ne in omega arith)
    ]

-- a flag that is offered, at its place
offered : (word n : ℕ) (flag : Flag) → flag_value flag ≡ 2 ^ n → offers word flag ≡ true → Covers word (flag_value flag)
offered word n flag e o =
    let s : IsBitSet word n = is_zero (bit_and word (2 ^ n)) (subst (λ (v : ℕ). not (bit_and word v == 0) ≡ true) e o) in
    subst (Covers word) (sym e) (covers_bit word n s)

pub all_offered : (word : ℕ) → PassAll word → has_all_of word mandatory ≡ true
all_offered word h =
    let flag : (i : ℕ) → i < 8 → offers word (get_or mandatory_flags i V4Nc) ≡ true = λ i lt. h i V4Nc lt in
    has_all word mandatory
    (covers_or word 0x4 (bit_or 0x8 (bit_or 0x100 (bit_or 0x10000 (bit_or 0x40000 (bit_or 0x1000000 (bit_or 0x2000000 0x400000000))))))
    (offered word 2 ExtendedReferences refl (flag 0 (lit< tt)))
    (covers_or word 0x8 (bit_or 0x100 (bit_or 0x10000 (bit_or 0x40000 (bit_or 0x1000000 (bit_or 0x2000000 0x400000000)))))
    (offered word 3 DistMonitor refl (flag 1 (lit< tt)))
    (covers_or word 0x100 (bit_or 0x10000 (bit_or 0x40000 (bit_or 0x1000000 (bit_or 0x2000000 0x400000000))))
    (offered word 8 ExtendedPidsPorts refl (flag 2 (lit< tt)))
    (covers_or word 0x10000 (bit_or 0x40000 (bit_or 0x1000000 (bit_or 0x2000000 0x400000000)))
    (offered word 16 Utf8Atoms refl (flag 3 (lit< tt)))
    (covers_or word 0x40000 (bit_or 0x1000000 (bit_or 0x2000000 0x400000000))
    (offered word 18 BigCreation refl (flag 4 (lit< tt)))
    (covers_or word 0x1000000 (bit_or 0x2000000 0x400000000)
    (offered word 24 Handshake23 refl (flag 5 (lit< tt)))
    (covers_or word 0x2000000 0x400000000
    (offered word 25 UnlinkId refl (flag 6 (lit< tt)))
    (offered word 34 V4Nc refl (flag 7 (lit< tt))))))))))

-- a flag at its place, of a word that has them all
one_of : (word n : ℕ) (flag : Flag) → flag_value flag ≡ 2 ^ n → Covers word mandatory → IsBitSet mandatory n → offers word flag ≡ true
one_of word n flag e c s = subst (λ (v : ℕ). not (bit_and word v == 0) ≡ true) (sym e) (not_zero (bit_and word (2 ^ n)) (c n s))

set_in : (n : ℕ) → nat_lt 0 (bit_and mandatory (2 ^ n)) ≡ true → IsBitSet mandatory n
set_in n e = λ z. let k = ltb-true 0 (bit_and mandatory (2 ^ n)) e in absurd (omega arith)

pub offered_all : (word : ℕ) → has_all_of word mandatory ≡ true → PassAll word
offered_all word e =
    let c = covers word mandatory e in
    let P : Flag → Type 0 = λ flag. offers word flag ≡ true in
    All-cons P ExtendedReferences
    (DistMonitor ∷ ExtendedPidsPorts ∷ Utf8Atoms ∷ BigCreation ∷ Handshake23 ∷ UnlinkId ∷ V4Nc ∷ [])
    (one_of word 2 ExtendedReferences refl c (set_in 2 refl))
    (All-cons P DistMonitor (ExtendedPidsPorts ∷ Utf8Atoms ∷ BigCreation ∷ Handshake23 ∷ UnlinkId ∷ V4Nc ∷ [])
    (one_of word 3 DistMonitor refl c (set_in 3 refl))
    (All-cons P ExtendedPidsPorts (Utf8Atoms ∷ BigCreation ∷ Handshake23 ∷ UnlinkId ∷ V4Nc ∷ [])
    (one_of word 8 ExtendedPidsPorts refl c (set_in 8 refl))
    (All-cons P Utf8Atoms (BigCreation ∷ Handshake23 ∷ UnlinkId ∷ V4Nc ∷ []) (one_of word 16 Utf8Atoms refl c (set_in 16 refl))
    (All-cons P BigCreation (Handshake23 ∷ UnlinkId ∷ V4Nc ∷ []) (one_of word 18 BigCreation refl c (set_in 18 refl))
    (All-cons P Handshake23 (UnlinkId ∷ V4Nc ∷ []) (one_of word 24 Handshake23 refl c (set_in 24 refl))
    (All-cons P UnlinkId (V4Nc ∷ []) (one_of word 25 UnlinkId refl c (set_in 25 refl))
    (All-cons P V4Nc [] (one_of word 34 V4Nc refl c (set_in 34 refl)) (All-nil P))))))))

-- the place of each flag
pub place : (flag : Flag) → (k : ℕ) × (flag_value flag ≡ 2 ^ k)
place ExtendedReferences = (2, refl)
place DistMonitor = (3, refl)
place DistMonitorName = (5, refl)
place ExtendedPidsPorts = (8, refl)
place Utf8Atoms = (16, refl)
place BigCreation = (18, refl)
place ExitPayload = (22, refl)
place Handshake23 = (24, refl)
place UnlinkId = (25, refl)
place V4Nc = (34, refl)
