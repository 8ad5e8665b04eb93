-- What is left of some room behind the parts of a term.
use Rattle.std.proofs.Common.{true, false, get_or, take, ◌-◌, ◌^◌, ◌≡◌, ℕ, zero, suc}
use Rattle.std.proofs.Common.{◌+◌, ◌<◌, ◌≤◌, List, [], ◌∷◌, length, sym, subst, arith}
use Rattle.std.specs.Prelude.{Option, Some, None, SomeIff, pos}
use Rattle.std.proofs.lemmas.Bool.{cond-true, cond-false, and_parts, ltb-true}
use Rattle.std.proofs.lemmas.List.{length-append}
use Rattle.erl_term.specs.declared.term.Term.{Term}
use Rattle.erl_term.specs.Data.{Data, int, tuple, list, improper, Items, no_items, item, count}
use Rattle.erl_term.specs.View.{view, items_view}
use Rattle.erl_term.specs.Canonical.{canonical_head, canonical_list, canonical_items, canonical_term, is_byte}
use Rattle.erl_term.specs.Canonical.{are_byte_items, is_string, is_list, levels_of, most_levels, IsInRange, AreInRange}
use Rattle.erl_term.specs.Room.{HasRoom, Leaves, LeavesOfItems}
use Rattle.erl_term.proofs.Canonical.{is_string_parts}
use Rattle.erl_term.proofs.Terms.{count-view}
use Rattle.erl_term.proofs.Lengths.{length-items, length-string, length-list, length-cells}

-- ---- items, one after the other

-- what is left behind the items so far
abbrev pub LeftBehind : ℕ → ℕ → Items → ℕ → Type 0
LeftBehind levels room ts left = AreInRange ts × (most_levels ts ≤ levels) × (length (canonical_items ts) + left ≡ room)

pub behind_more : (levels room : ℕ) (xs : List Term) (i : ℕ) (x : Term) (left n : ℕ) → i < length xs → x ≡ get_or xs i x
    → LeftBehind levels room (items_view (take i xs)) left
    → Leaves levels left (view x) (Some n) → LeftBehind levels room (items_view (take (i + 1) xs)) n
behind_more levels room [] i x left n lt e h k = absurd (omega arith)
behind_more levels room (y ∷ ys) zero x left n lt e h k =
    let same : HasRoom levels left (view y) = subst (λ (z : Term). HasRoom levels left (view z)) e k.0 in
    let len = length-append (canonical_term (view y)) [] in
    let at : length (canonical_term (view y)) + n ≡ left = subst (λ (z : Term). length (canonical_term (view z)) + n ≡ left) e k.1 in
    let l = same.1 in
    let r = h.2 in
    ((same.0, tt), omega arith, omega arith)
behind_more levels room (y ∷ ys) (suc i) x left n lt e h k =
    let first = length (canonical_term (view y)) in
    let len = length-append (canonical_term (view y)) (canonical_items (items_view (take i ys))) in
    let l = h.1 in
    let r = h.2 in
    let rest = behind_more levels (room - first) ys i x left n (omega arith) e (h.0.1, omega arith, omega arith) k in
    let more = length-append (canonical_term (view y)) (canonical_items (items_view (take (i + 1) ys))) in
    let m = rest.1 in
    let s = rest.2 in
    let k : suc i + 1 ≡ suc (i + 1) = omega arith in
    rw k ((h.0.0, rest.0), omega arith, omega arith)

pub behind_end : (levels room : ℕ) (xs : List Term) (i : ℕ) (x : Term) (left : ℕ) → i < length xs → x ≡ get_or xs i x
    → LeftBehind levels room (items_view (take i xs)) left
    → Leaves levels left (view x) None → AreInRange (items_view xs) → most_levels (items_view xs) ≤ levels
    → length (canonical_items (items_view xs)) ≤ room → ⊥
behind_end levels room [] i x left lt e h never range low short = omega arith
behind_end levels room (y ∷ ys) zero x left lt e h never range low short =
    let len = length-append (canonical_term (view y)) (canonical_items (items_view ys)) in
    let r = h.2 in
    never (subst (λ (z : Term). HasRoom levels left (view z)) (sym e) (range.0, omega arith, omega arith))
behind_end levels room (y ∷ ys) (suc i) x left lt e h never range low short =
    let first = length (canonical_term (view y)) in
    let len = length-append (canonical_term (view y)) (canonical_items (items_view (take i ys))) in
    let all = length-append (canonical_term (view y)) (canonical_items (items_view ys)) in
    let l = h.1 in
    let r = h.2 in
    behind_end levels (room - first) ys i x left (omega arith) e (h.0.1, omega arith, omega arith) never range.1 (omega arith) (omega arith)

pub behind_all : (levels room : ℕ) (ts : Items) (left : ℕ) → count ts < 2 ^ 32 → LeftBehind levels room ts left
    → LeavesOfItems levels room ts (Some left)
behind_all levels room ts left few h = let e = h.2 in ((few, h.0, h.1, omega arith), e)

-- ---- levels

pub below_is : (levels : ℕ) → 0 < levels → levels ≡ levels - 1 + 1
below_is levels some = omega arith

-- ---- tuples

pub no_head : (ts : Items) (levels room : ℕ) → (length (canonical_head (count ts)) ≤ room → ⊥) → HasRoom levels room (tuple ts) → ⊥
no_head ts levels room never h =
    let len = length-append (canonical_head (count ts)) (canonical_items ts) in
    let short = h.2 in
    never (omega arith)

pub tuple_leaves : (ts : Items) (levels below room left : ℕ) (r : Option ℕ) → levels ≡ below + 1
    → length (canonical_head (count ts)) ≤ room → left ≡ room - length (canonical_head (count ts))
    → LeavesOfItems below left ts r → Leaves levels room (tuple ts) r
tuple_leaves ts levels below room left (Some n) some le e h =
    let len = length-append (canonical_head (count ts)) (canonical_items ts) in
    let low = h.0.2 in
    let f = h.1 in
    (((h.0.0, h.0.1), omega arith, omega arith), omega arith)
tuple_leaves ts levels below room left None some le e never = λ h.
    let len = length-append (canonical_head (count ts)) (canonical_items ts) in
    let low = h.1 in
    let short = h.2 in
    never (h.0.0, h.0.1, omega arith, omega arith)

-- ---- proper lists

pub list_end : (below room : ℕ) (ts : List Term) (r : Option ℕ) → length ts ≡ 0 → SomeIff r (1 ≤ room) (room - 1)
    → Leaves (below + 1) room (list (items_view ts)) r
unfolding canonical_list
list_end below room [] (Some n) e h = let le = h.0 in let f = h.1 in (((omega arith, tt), omega arith, omega arith), omega arith)
list_end below room [] None e never = λ h. never h.2
list_end below room (t ∷ ts) r e h = absurd (omega arith)

byte_range : (ts : Items) → are_byte_items ts ≡ true → AreInRange ts
byte_range no_items e = tt
byte_range (item t ts) e = let p = and_parts (is_byte t) (are_byte_items ts) e in (at t p.0, byte_range ts p.1)
  where
    at : (u : Data) → is_byte u ≡ true → IsInRange u
    at (int (pos n)) b = let lt = ltb-true n 256 b in search arith
    at u b = absurd cc

pub string_leaves : (below room : ℕ) (ts : List Term) (r : Option ℕ) → 0 < length ts → is_string (items_view ts) ≡ true
    → SomeIff r (length ts + 3 ≤ room) (room - (length ts + 3)) → Leaves (below + 1) room (list (items_view ts)) r
string_leaves below room ts (Some n) some e h =
    let len = length-string ts some e in
    let p = is_string_parts (items_view ts) e in
    let few = p.1 in
    let le = h.0 in
    let left = h.1 in
    let one : levels_of (list (items_view ts)) ≡ 1 = cond-true (is_string (items_view ts)) 1 (suc (most_levels (items_view ts))) e in
    (((omega arith, byte_range (items_view ts) p.0), omega arith, omega arith), omega arith)
string_leaves below room ts None some e never = λ h. let len = length-string ts some e in let short = h.2 in never (omega arith)

cells_len : (ts : List Term) → 0 < length ts → is_string (items_view ts) ≡ false
    → 6 + length (canonical_items (items_view ts)) ≡ length (canonical_term (list (items_view ts)))
cells_len ts some e = let a = length-list ts some e in let b = length-items ts in omega arith

pub no_cells : (below room : ℕ) (ts : List Term) → 0 < length ts → is_string (items_view ts) ≡ false → (6 ≤ room → ⊥)
    → HasRoom (below + 1) room (list (items_view ts)) → ⊥
no_cells below room ts some e never h = let len = cells_len ts some e in let short = h.2 in never (omega arith)

pub list_leaves : (below room left : ℕ) (ts : List Term) (r : Option ℕ) → 0 < length ts → is_string (items_view ts) ≡ false
    → 6 ≤ room → left ≡ room - 6 → LeavesOfItems below left (items_view ts) r
    → Leaves (below + 1) room (list (items_view ts)) r
list_leaves below room left ts (Some n) some e le f h =
    let len = cells_len ts some e in
    let low = h.0.2 in
    let g = h.1 in
    let k : levels_of (list (items_view ts)) ≡ suc (most_levels (items_view ts)) =
    cond-false (is_string (items_view ts)) 1 (suc (most_levels (items_view ts))) e in
    (((h.0.0, h.0.1), omega arith, omega arith), omega arith)
list_leaves below room left ts None some e le f never = λ h.
    let len = cells_len ts some e in
    let low = h.1 in
    let short = h.2 in
    let k : levels_of (list (items_view ts)) ≡ suc (most_levels (items_view ts)) =
    cond-false (is_string (items_view ts)) 1 (suc (most_levels (items_view ts))) e in
    never (h.0.0, h.0.1, omega arith, omega arith)

-- ---- lists with a tail

pub no_end : (ts : List Term) (t : Data) (levels room : ℕ) → ((0 < length ts) × (is_list t ≡ false) → ⊥)
    → HasRoom levels room (improper (items_view ts) t) → ⊥
no_end ts t levels room never h = never (let n = count-view ts in let some = h.0.0 in omega arith, h.0.2)

pub no_cells_items : (ts : Items) (t : Data) (levels below room left : ℕ) → levels ≡ below + 1 → left ≡ room - 5
    → LeavesOfItems below left ts None → HasRoom levels room (improper ts t) → ⊥
no_cells_items ts t levels below room left some e never h =
    let len = length-cells (count ts) (canonical_items ts) (canonical_term t) in
    let low = h.1 in
    let short = h.2 in
    never (h.0.1, h.0.3, omega arith, omega arith)

pub improper_leaves : (ts : List Term) (t : Data) (levels below room left behind : ℕ) (r : Option ℕ) → levels ≡ below + 1
    → 5 ≤ room → left ≡ room - 5 → (0 < length ts) × (is_list t ≡ false)
    → LeavesOfItems below left (items_view ts) (Some behind) → Leaves below behind t r
    → Leaves levels room (improper (items_view ts) t) r
improper_leaves ts t levels below room left behind (Some n) some le e ends items h =
    let len = length-cells (count (items_view ts)) (canonical_items (items_view ts)) (canonical_term t) in
    let low = items.0.2 in
    let low_tail = h.0.1 in
    let f = items.1 in
    let g = h.1 in
    let n = count-view ts in
    let filled = ends.0 in
    (((omega arith, items.0.0, ends.1, items.0.1, h.0.0), omega arith, omega arith), omega arith)
improper_leaves ts t levels below room left behind None some le e ends items never = λ h.
    let len = length-cells (count (items_view ts)) (canonical_items (items_view ts)) (canonical_term t) in
    let low = h.1 in
    let short = h.2 in
    let f = items.1 in
    never (h.0.4, omega arith, omega arith)
