-- The canonical spellings of the terms that a program holds, and how long they are.
use Rattle.std.proofs.Common.{drop, ◌-◌, true, false, get_or, take, ◌≡◌, ℕ, suc, ◌+◌, ◌*◌, ◌<◌}
use Rattle.std.proofs.Common.{◌≤◌, List, [], ◌∷◌, ◌++◌, length, refl, sym, ap, ◌∙◌, arith}
use Rattle.std.specs.Prelude.{Option, Some, None, MatchOption, SomeIff}
use Rattle.std.specs.List.{flat_map}
use Rattle.std.proofs.lemmas.List.{length-append, take-append-drop}
use Rattle.std.proofs.lemmas.List.Concat.{flat_map-cons, flat_map-append}
use Rattle.std.proofs.Math.Seq.{drop-cons}
use Rattle.byteorder.specs.Endian.{big_bytes}
use Rattle.erl_term.specs.declared.term.Reference.{Reference}
use Rattle.erl_term.specs.declared.term.Term.{Term}
use Rattle.erl_term.specs.Data.{Data, tuple, improper, count}
use Rattle.erl_term.specs.View.{view, items_view}
use Rattle.erl_term.specs.Canonical.{canonical_atom, canonical_head, canonical_reference, words_text, canonical_cells}
use Rattle.erl_term.specs.Canonical.{canonical_list, canonical_items, canonical_term, bytes_of, is_string}
use Rattle.erl_term.proofs.Canonical.{string_count}
use Rattle.erl_term.proofs.Terms.{count-view}

-- ---- spellings

pub canonical-view : (ts : List Term) → canonical_items (items_view ts) ≡ flat_map (λ t. canonical_term (view t)) ts
canonical-view [] = refl
canonical-view (t ∷ ts) =
    ap (λ (w : List ℕ). canonical_term (view t) ++ w) (canonical-view ts) ∙ sym (flat_map-cons (λ t. canonical_term (view t)) t ts)

pub tuple_text : (ts : List Term)
    → canonical_term (tuple (items_view ts)) ≡ canonical_head (length ts) ++ flat_map (λ t. canonical_term (view t)) ts
tuple_text ts = let n = count-view ts in let k = canonical-view ts in rw (n, k) refl

pub improper_text : (ts : List Term) (d : Data) → canonical_term (improper (items_view ts) d)
    ≡ (108 ∷ big_bytes 4 (length ts)) ++ (flat_map (λ t. canonical_term (view t)) ts ++ canonical_term d)
improper_text ts d = let n = count-view ts in let k = canonical-view ts in rw (n, k) refl

-- of a proper list
abbrev pub list_text : List Term → List ℕ
list_text ts = canonical_list (items_view ts) (canonical_items (items_view ts))

pub text-nil : (ts : List Term) → length ts ≡ 0 → list_text ts ≡ 106 ∷ []
unfolding canonical_list
text-nil [] e = refl
text-nil (t ∷ ts) e = absurd (omega arith)

pub text-string : (ts : List Term) → 0 < length ts → is_string (items_view ts) ≡ true
    → list_text ts ≡ 107 ∷ (big_bytes 2 (length ts) ++ bytes_of (items_view ts))
unfolding canonical_list
text-string [] some e = absurd (omega arith)
text-string (t ∷ ts) some e = let n = count-view (t ∷ ts) in rw (e, n) refl

pub text-cells : (ts : List Term) → 0 < length ts → is_string (items_view ts) ≡ false
    → list_text ts ≡ canonical_cells (length ts) (flat_map (λ t. canonical_term (view t)) ts) (106 ∷ [])
unfolding canonical_list
text-cells [] some e = absurd (omega arith)
text-cells (t ∷ ts) some e = let n = count-view (t ∷ ts) in let k = canonical-view (t ∷ ts) in rw (e, n, k) refl

-- ---- lengths

length-words : (ws : List ℕ) → length (words_text ws) ≡ 4 * length ws
length-words [] = refl
length-words (w ∷ ws) =
    let e = length-words ws in
    let f = ap length (flat_map-cons (big_bytes 4) w ws) ∙ length-append (big_bytes 4 w) (words_text ws) in omega arith

pub length-reference : (r : Reference) → length (canonical_reference r) ≡ length (canonical_atom r.node) + 4 * length r.words + 7
unfolding canonical_reference
length-reference r =
    let w = length-words r.words in
    let a = length-append (big_bytes 4 r.creation) (words_text r.words) in
    let b = length-append (canonical_atom r.node) (big_bytes 4 r.creation ++ words_text r.words) in
    let c = length-append (big_bytes 2 (length r.words)) (canonical_atom r.node ++ (big_bytes 4 r.creation ++ words_text r.words)) in
    omega arith

pub length-items : (ts : List Term) → length (canonical_items (items_view ts)) ≡ length (flat_map (λ t. canonical_term (view t)) ts)
length-items ts = ap length (canonical-view ts)

pub length-tuple : (ts : List Term)
    → length (canonical_head (length ts)) + length (flat_map (λ t. canonical_term (view t)) ts)
    ≡ length (canonical_term (tuple (items_view ts)))
length-tuple ts =
    let a = length-append (canonical_head (count (items_view ts))) (canonical_items (items_view ts)) in
    let b = length-items ts in
    let c : length (canonical_head (count (items_view ts))) ≡ length (canonical_head (length ts)) =
    ap (λ (n : ℕ). length (canonical_head n)) (count-view ts) in
    omega arith

pub length-cells : (n : ℕ) (elements tail : List ℕ) → length (canonical_cells n elements tail) ≡ 5 + length elements + length tail
length-cells n elements tail =
    let a = length-append (big_bytes 4 n) (elements ++ tail) in
    let b = length-append elements tail in
    omega arith

pub length-improper : (ts : List Term) (d : Data)
    → 5 + length (flat_map (λ t. canonical_term (view t)) ts) + length (canonical_term d)
    ≡ length (canonical_term (improper (items_view ts) d))
length-improper ts d =
    let a = length-cells (count (items_view ts)) (canonical_items (items_view ts)) (canonical_term d) in
    let b = length-items ts in
    omega arith

pub length-string : (ts : List Term) → 0 < length ts → is_string (items_view ts) ≡ true → length ts + 3 ≡ length (list_text ts)
length-string ts some e =
    let a = ap length (text-string ts some e) in
    let b = length-append (big_bytes 2 (length ts)) (bytes_of (items_view ts)) in
    let c = string_count (items_view ts) in
    let n = count-view ts in
    omega arith

pub length-list : (ts : List Term) → 0 < length ts → is_string (items_view ts) ≡ false
    → 6 + length (flat_map (λ t. canonical_term (view t)) ts) ≡ length (list_text ts)
length-list ts some e =
    let a = ap length (text-cells ts some e) in
    let b = length-cells (length ts) (flat_map (λ t. canonical_term (view t)) ts) (106 ∷ []) in
    omega arith

-- the items before one, and that one, are not longer than all
pub flat_item : (f : Term → List ℕ) (xs : List Term) (i : ℕ) (x : Term) → i < length xs → x ≡ get_or xs i x
    → length (flat_map f (take i xs)) + length (f x) ≤ length (flat_map f xs)
flat_item f xs i x lt e =
    let split : flat_map f xs ≡ flat_map f (take i xs) ++ flat_map f (drop i xs) =
    ap (flat_map f) (sym (take-append-drop i xs)) ∙ flat_map-append f (take i xs) (drop i xs) in
    let tail : drop i xs ≡ x ∷ drop (suc i) xs = drop-cons xs i x lt ∙ ap (λ (y : Term). y ∷ drop (suc i) xs) (sym e) in
    let one : flat_map f (drop i xs) ≡ f x ++ flat_map f (drop (suc i) xs) = ap (flat_map f) tail ∙ flat_map-cons f x (drop (suc i) xs) in
    let a = ap length split ∙ length-append (flat_map f (take i xs)) (flat_map f (drop i xs)) in
    let b = ap length one ∙ length-append (f x) (flat_map f (drop (suc i) xs)) in
    omega arith

-- ---- room

-- what is left of the room once so many bytes are written there
abbrev pub LeavesOf : ℕ → ℕ → Option ℕ → Type 0
LeavesOf room len r = MatchOption r (room < len) (λ left. len + left ≡ room)

pub room_same : (room a b : ℕ) (r : Option ℕ) → a ≡ b → LeavesOf room a r → LeavesOf room b r
room_same room a b (Some left) e h = omega arith
room_same room a b None e h = omega arith

pub room_then : (room head tail left : ℕ) (r : Option ℕ) → head + left ≡ room → LeavesOf left tail r → LeavesOf room (head + tail) r
room_then room head tail left (Some x) e h = omega arith
room_then room head tail left None e h = omega arith

pub sub_leaves : (room len : ℕ) (r : Option ℕ) → SomeIff r (len ≤ room) (room - len) → LeavesOf room len r
sub_leaves room len (Some left) h = let le = h.0 in let e = h.1 in omega arith
sub_leaves room len None h = let n : (len ≤ room) → ⊥ = h in omega arith
