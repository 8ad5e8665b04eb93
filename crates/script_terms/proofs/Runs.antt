-- Runs of bytes that pass a test, as those of digits.
use Rattle.std.proofs.Common.{◌≡◌, ℕ, zero, suc, ◌+◌, ◌/◌, ◌%◌, ◌≤◌, ◌<◌, Bool, true, false, not, ◌&&◌, eqb}
use Rattle.std.proofs.Common.{ltb, cond, List, [], ◌∷◌, ◌++◌, length, drop, encode_utf8, refl, sym, arith}
use Rattle.std.specs.List.{list_all, take_while, prefix_len}
use Rattle.std.specs.Fmt.{digits, digits_onto, digit_glyph}
use Rattle.std.proofs.lemmas.Bool.{and_parts, and_from, not-true, ltb-true}
use Rattle.std.proofs.lemmas.List.{take_at, drop_at}
use lib.Utf8.{encode, next}

-- the bytes behind a run begin with none of the run
abbrev pub stops : (ℕ → Bool) → List ℕ → Bool
stops p [] = true
stops p (c ∷ cs) = not (p c)

run_len : (p : ℕ → Bool) (word rest : List ℕ) → list_all p word ≡ true → stops p rest ≡ true → prefix_len p (word ++ rest) ≡ length word
run_len p [] [] h s = refl
run_len p [] (c ∷ cs) h s = let e : p c ≡ false = not-true (p c) s in rw e refl
run_len p (w ∷ ws) rest h s =
    let both = and_parts (p w) (list_all p ws) h in
    let more = run_len p ws rest both.1 s in
    rw (both.0, more) (omega arith)

pub run_is : (p : ℕ → Bool) (word rest : List ℕ) → list_all p word ≡ true → stops p rest ≡ true → take_while p (word ++ rest) ≡ word
run_is p word rest h s = take_at word rest (prefix_len p (word ++ rest)) (sym (run_len p word rest h s))

pub run_rest : (p : ℕ → Bool) (word rest : List ℕ) → list_all p word ≡ true → stops p rest ≡ true
    → drop (prefix_len p (word ++ rest)) (word ++ rest) ≡ rest
run_rest p word rest h s = drop_at word rest (prefix_len p (word ++ rest)) (sym (run_len p word rest h s))

pub all-append : (p : ℕ → Bool) (xs ys : List ℕ) → list_all p xs ≡ true → list_all p ys ≡ true → list_all p (xs ++ ys) ≡ true
all-append p [] ys h k = k
all-append p (x ∷ xs) ys h k =
    let both = and_parts (p x) (list_all p xs) h in and_from (p x) (list_all p (xs ++ ys)) both.0 (all-append p xs ys both.1 k)

-- a weaker test
pub all_weaker : (p q : ℕ → Bool) (xs : List ℕ) → ((x : ℕ) → p x ≡ true → q x ≡ true) → list_all p xs ≡ true → list_all q xs ≡ true
all_weaker p q [] w h = refl
all_weaker p q (x ∷ xs) w h =
    let both = and_parts (p x) (list_all p xs) h in and_from (q x) (list_all q xs) (w x both.0) (all_weaker p q xs w both.1)

either : (p : ℕ → Bool) (b : Bool) (xs ys : List ℕ) → list_all p xs ≡ true → list_all p ys ≡ true → list_all p (cond b xs ys) ≡ true
either p true xs ys h k = h
either p false xs ys h k = k

-- ---- the digits of a number

onto_all : (p : ℕ → Bool) (base : ℕ) (upper : Bool) → ((n : ℕ) → p (digit_glyph upper (n % base)) ≡ true)
    → (k n : ℕ) (acc : List ℕ) → list_all p acc ≡ true → list_all p (digits_onto k base upper n acc) ≡ true
onto_all p base upper one zero n acc h = h
onto_all p base upper one (suc k) n acc h =
    let glyph = digit_glyph upper (n % base) in
    let more : list_all p (glyph ∷ acc) ≡ true = and_from (p glyph) (list_all p acc) (one n) h in
    either p (eqb (n / base) 0) (glyph ∷ acc) (digits_onto k base upper (n / base) (glyph ∷ acc)) more
    (onto_all p base upper one k (n / base) (glyph ∷ acc) more)

pub digits_all : (p : ℕ → Bool) (base : ℕ) (upper : Bool) → ((n : ℕ) → p (digit_glyph upper (n % base)) ≡ true) → (n : ℕ)
    → list_all p (digits base upper n) ≡ true
unfolding digits
digits_all p base upper one n = onto_all p base upper one 64 n [] refl

-- ---- the bytes of a character

pub encode_all : (p : ℕ → Bool) → ((b : ℕ) → 128 ≤ b → p b ≡ true) → (c : ℕ) → (c < 128 → p c ≡ true) → list_all p (encode_utf8 c) ≡ true
unfolding encode
encode_all p high c low = by (ltb c 128) refl (ltb c 2048) (ltb c 65536)
  where
    and3 : (x y z : Bool) → x ≡ true → y ≡ true → z ≡ true → (x && (y && (z && true))) ≡ true
    and3 x y z h k l = and_from x (y && (z && true)) h (and_from y (z && true) k (and_from z true l refl))

    by : (x : Bool) → ltb c 128 ≡ x → (y z : Bool) → list_all p (cond x (c ∷ []) (cond y ((192 + c / 64) ∷ next c
        ∷ []) (cond z ((224 + c / 4096) ∷ next (c / 64) ∷ next c ∷ [])
        ((240 + c / 262144) ∷ next (c / 4096) ∷ next (c / 64) ∷ next c ∷ [])))) ≡ true
    by true e y z = and_from (p c) true (low (ltb-true c 128 e)) refl
    by false e true z =
        and_from (p (192 + c / 64)) (p (next c) && true) (high _ (omega arith)) (and_from (p (next c)) true (high _ (omega arith)) refl)
    by false e false true =
        and3 (p (224 + c / 4096)) (p (next (c / 64))) (p (next c)) (high _ (omega arith)) (high _ (omega arith)) (high _ (omega arith))
    by false e false false =
        and_from (p (240 + c / 262144)) (p (next (c / 4096)) && (p (next (c / 64)) && (p (next c) && true)))
        (high _ (omega arith))
        (and3 (p (next (c / 4096))) (p (next (c / 64))) (p (next c)) (high _ (omega arith)) (high _ (omega arith)) (high _ (omega arith)))
