-- The levels of terms in a row, one after the other.
use Rattle.std.proofs.Math.Bool.{and-true}
use Rattle.std.proofs.Common.{◌≡◌, ℕ, suc, ◌+◌, ◌<◌, ◌^◌, Bool, true, false, cond, ◌&&◌, ◌||◌}
use Rattle.std.proofs.Common.{leb, ltb, List, [], ◌∷◌, ◌++◌, refl, sym, ap, ◌∙◌, arith, max}
use Rattle.std.proofs.lemmas.Bool.{leb-true, leb-false, le-leb, lt-leb, lt-ltb, le-ltb, ltb-true, ltb-false}
use Rattle.erl_term.specs.Data.{Data, tuple, list, Items, no_items, item, count, joined}
use Rattle.erl_term.specs.View.{items_of}
use Rattle.erl_term.specs.Canonical.{is_byte, are_byte_items, is_string, is_list, levels_of, most_levels}
use Rattle.erl_term.proofs.Canonical.{joined_improper}
use Rattle.script_terms.proofs.Cells.{and_one}

-- ---- tests

pub le_max : (a b n : ℕ) → leb (max a b) n ≡ (leb a n && leb b n)
le_max a b n = by (leb a n) (leb b n) refl refl
  where
    by : (x y : Bool) → leb a n ≡ x → leb b n ≡ y → leb (max a b) n ≡ (x && y)
    by true true e f = let k = leb-true a n e in let l = leb-true b n f in le-leb _ _ (omega arith)
    by true false e f = let l = leb-false b n f in lt-leb _ _ (omega arith)
    by false true e f = let k = leb-false a n e in lt-leb _ _ (omega arith)
    by false false e f = let k = leb-false a n e in lt-leb _ _ (omega arith)

pub le_suc : (a n : ℕ) → leb (suc a) (n + 1) ≡ leb a n
le_suc a n = by (leb a n) refl
  where
    by : (x : Bool) → leb a n ≡ x → leb (suc a) (n + 1) ≡ x
    by true e = let k = leb-true a n e in le-leb _ _ (omega arith)
    by false e = let k = leb-false a n e in lt-leb _ _ (omega arith)

-- ---- one more

pub most_push : (ds : List Data) (d : Data) → most_levels (items_of (ds ++ d ∷ [])) ≡ max (most_levels (items_of ds)) (levels_of d)
most_push [] d = omega arith
most_push (e ∷ ds) d = let k = most_push ds d in omega arith

pub fit_push : (ds : List Data) (d : Data) (n : ℕ) (a b : Bool) → a ≡ leb (most_levels (items_of ds)) n
    → b ≡ leb (levels_of d) n → (a && b) ≡ leb (most_levels (items_of (ds ++ d ∷ []))) n
fit_push ds d n a b e f =
    ap (λ (x : Bool). x && b) e ∙ ap (λ (y : Bool). leb (most_levels (items_of ds)) n && y) f ∙ sym (le_max _ _ n)
    ∙ ap (λ (m : ℕ). leb m n) (sym (most_push ds d))

most_and_one : (ts : Items) (d : Data) → most_levels (and_one ts d) ≡ max (most_levels ts) (levels_of d)
most_and_one no_items d = omega arith
most_and_one (item e ts) d = let k = most_and_one ts d in omega arith

pub fit_and_one : (ts : Items) (d : Data) (n : ℕ) (a b : Bool) → a ≡ leb (most_levels ts) n → b ≡ leb (levels_of d) n
    → (a && b) ≡ leb (most_levels (and_one ts d)) n
fit_and_one ts d n a b e f =
    ap (λ (x : Bool). x && b) e ∙ ap (λ (y : Bool). leb (most_levels ts) n && y) f ∙ sym (le_max _ _ n)
    ∙ ap (λ (m : ℕ). leb m n) (sym (most_and_one ts d))

and_assoc : (a b c : Bool) → (a && (b && c)) ≡ ((a && b) && c)
and_assoc true b c = refl
and_assoc false b c = refl

bytes_more : (ts : Items) (d : Data) → are_byte_items (and_one ts d) ≡ (are_byte_items ts && is_byte d)
bytes_more no_items d = and-true (is_byte d)
bytes_more (item e ts) d = ap (λ (x : Bool). is_byte e && x) (bytes_more ts d) ∙ and_assoc (is_byte e) (are_byte_items ts) (is_byte d)

pub bytes_and_one : (ts : Items) (d : Data) (a b : Bool) → a ≡ are_byte_items ts → b ≡ is_byte d → (a && b) ≡ are_byte_items (and_one ts d)
bytes_and_one ts d a b e f = ap (λ (x : Bool). x && b) e ∙ ap (λ (y : Bool). are_byte_items ts && y) f ∙ sym (bytes_more ts d)

pub count_and_one : (ts : Items) (d : Data) → count (and_one ts d) ≡ count ts + 1
count_and_one no_items d = refl
count_and_one (item e ts) d = let k = count_and_one ts d in omega arith

-- ---- the levels of a tuple and of a list

pub tuple_fits : (ts : Items) (n : ℕ) (a : Bool) → a ≡ leb (most_levels ts) n → a ≡ leb (levels_of (tuple ts)) (n + 1)
tuple_fits ts n a e = e ∙ sym (le_suc (most_levels ts) n)

one_level : (most n : ℕ) (string : Bool) → leb (cond string 1 (suc most)) (n + 1) ≡ (leb most n || string)
one_level most n true = by (leb most n)
  where
    by : (x : Bool) → leb 1 (n + 1) ≡ (x || true)
    by true = le-leb 1 (n + 1) (omega arith)
    by false = le-leb 1 (n + 1) (omega arith)
one_level most n false = le_suc most n ∙ sym (by (leb most n))
  where
    by : (x : Bool) → (x || false) ≡ x
    by true = refl
    by false = refl

few : (i n : ℕ) → n ≡ i + 1 → ltb i 65535 ≡ ltb n (2 ^ 16)
few i n e = by (ltb i 65535) refl
  where
    by : (x : Bool) → ltb i 65535 ≡ x → x ≡ ltb n (2 ^ 16)
    by true k = let l = ltb-true i 65535 k in sym (lt-ltb n (2 ^ 16) (omega arith))
    by false k = let l = ltb-false i 65535 k in sym (le-ltb n (2 ^ 16) (omega arith))

pub list_fits : (ts : Items) (n i : ℕ) (fit bytes : Bool) → fit ≡ leb (most_levels ts) n → bytes ≡ are_byte_items ts
    → count ts ≡ i + 1 → (fit || (bytes && ltb i 65535)) ≡ leb (levels_of (list ts)) (n + 1)
list_fits ts n i fit bytes e f c =
    ap (λ (x : Bool). x || (bytes && ltb i 65535)) e ∙ ap (λ (y : Bool). leb (most_levels ts) n || (y && ltb i 65535)) f
    ∙ ap (λ (z : Bool). leb (most_levels ts) n || (are_byte_items ts && z)) (few i (count ts) c)
    ∙ sym (one_level (most_levels ts) n (is_string ts))

pub improper_fits : (ts : Items) (u : Data) (n : ℕ) (a b : Bool) → 0 < count ts → is_list u ≡ false
    → a ≡ leb (most_levels ts) n → b ≡ leb (levels_of u) n → (a && b) ≡ leb (levels_of (joined ts u)) (n + 1)
improper_fits ts u n a b some other e f =
    ap (λ (x : Bool). x && b) e ∙ ap (λ (y : Bool). leb (most_levels ts) n && y) f ∙ sym (le_max _ _ n)
    ∙ sym (le_suc (max (most_levels ts) (levels_of u)) n)
    ∙ ap (λ (d : Data). leb (levels_of d) (n + 1)) (sym (joined_improper ts u some other))

-- a list is no byte
pub joined_no_byte : (ts : Items) (u : Data) → 0 < count ts → is_list u ≡ false → is_byte (joined ts u) ≡ false
joined_no_byte ts u some other = ap is_byte (joined_improper ts u some other)
