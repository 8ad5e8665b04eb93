-- Facts about the data of the terms that a program holds.
use Rattle.std.proofs.Common.{◌-◌, true, false, Bool, ltb, rules, get_or, ◌^◌, ◌≡◌, ℕ, zero, suc}
use Rattle.std.proofs.Common.{◌<◌, ◌≤◌, List, [], ◌∷◌, length, All, refl, sym, ap, ◌∙◌, arith}
use Rattle.std.specs.Prelude.{Option, Some, None, Box, IsTrue, ◌↔◌}
use Rattle.std.specs.declared.alloc.Global.{Global}
use Rattle.std.specs.Global.{Vec}
use Rattle.std.proofs.lemmas.Bool.{false≢true, le-ltb, lt-ltb, and_left, and_right, and_from, cond-false}
use Rattle.std.proofs.lemmas.List.Elements.{All-nil, All-cons, All-head, All-tail}
use Rattle.erl_term.specs.declared.term.Term.{Term, the_lemmas}
use Rattle.erl_term.specs.declared.term.Term.TheVariants as term
use Rattle.erl_term.specs.Data.{Data, tuple, list, improper, count}
use Rattle.erl_term.specs.View.{view, items_view}
use Rattle.erl_term.specs.Canonical.{is_byte, are_byte_items, is_string, is_list, levels_of, most_levels, IsInRange, AreInRange}
use Rattle.erl_term.proofs.Canonical.{is_string_parts}

-- ---- the data of each variant

pub view-tuple : (t : Term) (v : Vec Term) → t ≡ term.Tuple v → view t ≡ tuple (items_view v.items)
view-tuple t v e = ap view e ∙ at v
  where
    at : (x : Vec Term) → view (term.Tuple x) ≡ tuple (items_view x.items)
    at x = search (rules, the_lemmas)

pub view-list : (t : Term) (v : Vec Term) (o : Option (Box Term Global)) → t ≡ term.List v o → o ≡ None → view t ≡ list (items_view v.items)
view-list t v o e f = ap view (e ∙ ap (term.List v) f) ∙ at v
  where
    at : (x : Vec Term) → view (term.List x None) ≡ list (items_view x.items)
    at x = search (rules, the_lemmas)

pub view-improper : (t : Term) (v : Vec Term) (o : Option (Box Term Global)) (b : Box Term Global) → t ≡ term.List v o
    → o ≡ Some b → view t ≡ improper (items_view v.items) (view b.value)
view-improper t v o b e f = ap view (e ∙ ap (term.List v) f) ∙ at v b
  where
    at : (x : Vec Term) (y : Box Term Global) → view (term.List x (Some y)) ≡ improper (items_view x.items) (view y.value)
    at x y = search (rules, the_lemmas)

-- ---- items

pub count-view : (ts : List Term) → count (items_view ts) ≡ length ts
count-view [] = refl
count-view (t ∷ ts) = let e = count-view ts in omega arith

pub range_all : (ts : List Term) → AreInRange (items_view ts) → All (λ t. IsInRange (view t)) ts
range_all [] h = All-nil (λ t. IsInRange (view t))
range_all (t ∷ ts) h = All-cons (λ t. IsInRange (view t)) t ts h.0 (range_all ts h.1)

pub all_range : (ts : List Term) → All (λ t. IsInRange (view t)) ts → AreInRange (items_view ts)
all_range [] h = tt
all_range (t ∷ ts) h = (All-head (λ t. IsInRange (view t)) t ts h, all_range ts (All-tail (λ t. IsInRange (view t)) t ts h))

levels_all : (n : ℕ) (ts : List Term) → most_levels (items_view ts) ≤ n → All (λ t. levels_of (view t) ≤ n) ts
levels_all n [] h = All-nil (λ t. levels_of (view t) ≤ n)
levels_all n (t ∷ ts) h = All-cons (λ t. levels_of (view t) ≤ n) t ts (omega arith) (levels_all n ts (omega arith))

all_levels : (n : ℕ) (ts : List Term) → All (λ t. levels_of (view t) ≤ n) ts → most_levels (items_view ts) ≤ n
all_levels n [] h = omega arith
all_levels n (t ∷ ts) h =
    let first : levels_of (view t) ≤ n = All-head (λ t. levels_of (view t) ≤ n) t ts h in
    let others : most_levels (items_view ts) ≤ n = all_levels n ts (All-tail (λ t. levels_of (view t) ≤ n) t ts h) in
    omega arith

-- ---- which terms are in range

abbrev pub CanStand : List Term → Type 0
CanStand ts = (count (items_view ts) < 2 ^ 32) × AreInRange (items_view ts)

pub can_stand : (ts : List Term) (r : Bool) → length ts < 2 ^ 32 → (IsTrue r ↔ All (λ t. IsInRange (view t)) ts) → (IsTrue r ↔ CanStand ts)
can_stand ts r lt f =
    let n = count-view ts in
    (λ h. (omega arith, all_range ts (f.0 h)), λ h. f.1 (range_all ts h.1))

pub cannot_stand : (ts : List Term) → (length ts < 2 ^ 32 → ⊥) → (IsTrue false ↔ CanStand ts)
cannot_stand ts never =
    let n = count-view ts in
    (λ h. absurd cc, λ h. absurd (let lt = h.0 in never (omega arith)))

abbrev CanEnd : List Term → Data → Type 0
CanEnd ts d = (0 < length ts) × (is_list d ≡ false)

pub improper_in_range : (ts : List Term) (d : Data) (r : Bool) → CanEnd ts d → CanStand ts → (IsTrue r ↔ IsInRange d)
    → (IsTrue r ↔ IsInRange (improper (items_view ts) d))
improper_in_range ts d r e s f =
    let n = count-view ts in
    (λ h. (omega arith, s.0, e.1, s.1, f.0 h), λ h. f.1 h.4)

pub improper_not_end : (ts : List Term) (d : Data) → (CanEnd ts d → ⊥) → (IsTrue false ↔ IsInRange (improper (items_view ts) d))
improper_not_end ts d never =
    let n = count-view ts in
    (λ h. absurd cc, λ h. absurd (let lt = h.0 in never (omega arith, h.2)))

pub improper_not_stand : (ts : List Term) (d : Data) → (CanStand ts → ⊥) → (IsTrue false ↔ IsInRange (improper (items_view ts) d))
improper_not_stand ts d never = (λ h. absurd cc, λ h. absurd (never (h.1, h.3)))

pub items_range : (ts : List Term) → CanStand ts → (length ts < 2 ^ 32) × All (λ t. IsInRange (view t)) ts
items_range ts h =
    let n = count-view ts in
    let lt = h.0 in
    (omega arith, range_all ts h.1)

-- ---- levels

pub tuple_levels : (ts : List Term) (n : ℕ) (r : Bool) → 0 < n → (IsTrue r ↔ All (λ t. levels_of (view t) ≤ n - 1) ts)
    → (IsTrue r ↔ (levels_of (tuple (items_view ts)) ≤ n))
tuple_levels ts n r lt f = (λ h. let l = all_levels (n - 1) ts (f.0 h) in omega arith, λ h. f.1 (levels_all (n - 1) ts (omega arith)))

pub list_levels : (ts : List Term) (n : ℕ) (r : Bool) → 0 < n → is_string (items_view ts) ≡ false
    → (IsTrue r ↔ All (λ t. levels_of (view t) ≤ n - 1) ts) → (IsTrue r ↔ (levels_of (list (items_view ts)) ≤ n))
list_levels ts n r lt e f =
    let k : levels_of (list (items_view ts)) ≡ suc (most_levels (items_view ts)) =
    cond-false (is_string (items_view ts)) 1 (suc (most_levels (items_view ts))) e in
    (λ h. let l = all_levels (n - 1) ts (f.0 h) in omega arith, λ h. f.1 (levels_all (n - 1) ts (omega arith)))

pub improper_levels : (ts : List Term) (d : Data) (n : ℕ) (r : Bool) → 0 < n → All (λ t. levels_of (view t) ≤ n - 1) ts
    → (IsTrue r ↔ (levels_of d ≤ n - 1)) → (IsTrue r ↔ (levels_of (improper (items_view ts) d) ≤ n))
improper_levels ts d n r lt all f = let l = all_levels (n - 1) ts all in (λ h. let k = f.0 h in omega arith, λ h. f.1 (omega arith))

pub improper_no_levels : (ts : List Term) (d : Data) (n : ℕ) → 0 < n → (All (λ t. levels_of (view t) ≤ n - 1) ts → ⊥)
    → (IsTrue false ↔ (levels_of (improper (items_view ts) d) ≤ n))
improper_no_levels ts d n lt never = (λ h. absurd cc, λ h. absurd (never (levels_all (n - 1) ts (omega arith))))

-- ---- items that a STRING can hold

pub too_many : (ts : List Term) → 2 ^ 16 ≤ length ts → is_string (items_view ts) ≡ false
too_many ts le =
    let n = count-view ts in and_right (are_byte_items (items_view ts)) (ltb (count (items_view ts)) (2 ^ 16))
    (le-ltb (count (items_view ts)) (2 ^ 16) (omega arith))

pub string_of : (ts : List Term) → length ts < 2 ^ 16 → All (λ t. is_byte (view t) ≡ true) ts → is_string (items_view ts) ≡ true
string_of ts lt h =
    let n = count-view ts in and_from (are_byte_items (items_view ts)) (ltb (count (items_view ts)) (2 ^ 16)) (each ts h)
    (lt-ltb (count (items_view ts)) (2 ^ 16) (omega arith))
  where
    each : (us : List Term) → All (λ t. is_byte (view t) ≡ true) us → are_byte_items (items_view us) ≡ true
    each [] k = refl
    each (u ∷ us) k =
        and_from (is_byte (view u)) (are_byte_items (items_view us)) (All-head (λ t. is_byte (view t) ≡ true) u us k)
        (each us (All-tail (λ t. is_byte (view t) ≡ true) u us k))

pub not_string : (ts : List Term) (i : ℕ) (x : Term) → i < length ts → x ≡ get_or ts i x → is_byte (view x) ≡ false
    → is_string (items_view ts) ≡ false
not_string ts i x lt e h = and_left (are_byte_items (items_view ts)) (ltb (count (items_view ts)) (2 ^ 16)) (at ts i lt e)
  where
    at : (us : List Term) (k : ℕ) → k < length us → x ≡ get_or us k x → are_byte_items (items_view us) ≡ false
    at [] k l f = absurd (omega arith)
    at (u ∷ us) zero l f = and_left (is_byte (view u)) (are_byte_items (items_view us)) (ap (λ (y : Term). is_byte (view y)) (sym f) ∙ h)
    at (u ∷ us) (suc k) l f = and_right (is_byte (view u)) (are_byte_items (items_view us)) (at us k (omega arith) f)

pub string_fits : (ts : List Term) → is_string (items_view ts) ≡ true → length ts < 2 ^ 16
string_fits ts e = let n = count-view ts in let lt = (is_string_parts (items_view ts) e).1 in omega arith

pub string_byte : (ts : List Term) (i : ℕ) (x : Term) → i < length ts → x ≡ get_or ts i x → is_string (items_view ts) ≡ true
    → is_byte (view x) ≡ true
string_byte ts i x lt e h = by (is_byte (view x)) refl
  where
    by : (b : Bool) → is_byte (view x) ≡ b → is_byte (view x) ≡ true
    by true k = k
    by false k = absurd (false≢true (sym (not_string ts i x lt e k) ∙ h))
