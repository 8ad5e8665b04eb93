-- A spelling has a byte or more for each of its levels.
use Rattle.std.proofs.Common.{ℕ, suc, ◌+◌, ◌-◌, ◌^◌, ◌≡◌, ◌≤◌, Bool, true, false, cond, ltb, List, [], ◌∷◌, ◌++◌, length, arith}
use Rattle.std.specs.Prelude.{ℤ, pos, negsuc}
use Rattle.std.proofs.lemmas.List.{length-append}
use Rattle.byteorder.specs.Endian.{big_bytes}
use Rattle.erl_term.specs.Data.{Data, int, atom, tuple, list, improper, Items, no_items, item, count}
use Rattle.erl_term.specs.Canonical.{canonical_big, canonical_int, canonical_atom, canonical_head, canonical_pid}
use Rattle.erl_term.specs.Canonical.{canonical_reference, canonical_binary, canonical_cells, canonical_list}
use Rattle.erl_term.specs.Canonical.{bytes_of, is_string, levels_of, most_levels, canonical_term, canonical_items}
use Rattle.erl_term.proofs.Lengths.{length-cells}

some_integer : (z : ℤ) → 1 ≤ length (canonical_int z)
unfolding canonical_int
some_integer (pos n) = by (ltb n 256) (ltb n (2 ^ 31))
  where
    by : (a b : Bool) → 1 ≤ length (cond a (97 ∷ n ∷ []) (cond b (98 ∷ big_bytes 4 n) (canonical_big 0 n)))
    by true b = omega arith
    by false true = omega arith
    by false false = omega arith
some_integer (negsuc n) = by (ltb n (2 ^ 31))
  where
    by : (a : Bool) → 1 ≤ length (cond a (98 ∷ big_bytes 4 (2 ^ 32 - 1 - n)) (canonical_big 1 (suc n)))
    by true = omega arith
    by false = omega arith

some_atom : (a : List ℕ) → 1 ≤ length (canonical_atom a)
unfolding canonical_atom
some_atom a = by (ltb (length a) 256)
  where
    by : (b : Bool) → 1 ≤ length (cond b (119 ∷ length a ∷ a) (118 ∷ (big_bytes 2 (length a) ++ a)))
    by true = omega arith
    by false = omega arith

some_head : (n : ℕ) → 1 ≤ length (canonical_head n)
unfolding canonical_head
some_head n = by (ltb n 256)
  where
    by : (b : Bool) → 1 ≤ length (cond b (104 ∷ n ∷ []) (105 ∷ big_bytes 4 n))
    by true = omega arith
    by false = omega arith

list_levels : (ts : Items) (elements : List ℕ) → most_levels ts ≤ length elements
    → levels_of (list ts) ≤ length (canonical_list ts elements)
unfolding canonical_list
list_levels no_items elements h = omega arith
list_levels (item t ts) elements h = by (is_string (item t ts)) (length-cells (count (item t ts)) elements (106 ∷ []))
  where
    by : (b : Bool) → length (canonical_cells (count (item t ts)) elements (106 ∷ [])) ≡ 5 + length elements + 1
        → cond b 1 (suc (most_levels (item t ts))) ≤ length (cond b
        (107 ∷ (big_bytes 2 (count (item t ts)) ++ bytes_of (item t ts)))
        (canonical_cells (count (item t ts)) elements (106 ∷ [])))
    by true l = omega arith
    by false l = omega arith

mutual
  unfolding canonical_pid canonical_reference canonical_binary

  pub levels_fit : (t : Data) → levels_of t ≤ length (canonical_term t)
  levels_fit (int z) = some_integer z
  levels_fit (atom a) = some_atom a
  levels_fit (tuple ts) =
      let h = some_head (count ts) in let m = most_fit ts in
      let l = length-append (canonical_head (count ts)) (canonical_items ts) in omega arith
  levels_fit (list ts) = list_levels ts (canonical_items ts) (most_fit ts)
  levels_fit (improper ts t) =
      let m = most_fit ts in let n = levels_fit t in let l = length-cells (count ts) (canonical_items ts) (canonical_term t) in omega arith
  levels_fit t = omega arith

  most_fit : (ts : Items) → most_levels ts ≤ length (canonical_items ts)
  most_fit no_items = omega arith
  most_fit (item t ts) =
      let m = levels_fit t in let n = most_fit ts in let l = length-append (canonical_term t) (canonical_items ts) in omega arith
