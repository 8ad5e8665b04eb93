use Rattle.std.proofs.Common.{◌≡◌, ◌++◌, ◌∷◌, ◌+◌, ◌≤◌, length, take, vec_len, vec_capacity}
use Rattle.byteorder.specs.Endian.{big_bytes}
use Rattle.erl_term.specs.Canonical.{bytes_of}
use Rattle.erl_term.specs.View.{items_view}
use Rattle.erl_term.proofs.writing.write_string.Given as goal

abbrev pub invariant-loop-item : goal.invariant-loop-item
invariant-loop-item l = record {
  items : l.out.items ≡ l.fn.out.items ++ 107 ∷ (big_bytes 2 (length l.items) ++ bytes_of (items_view (take l.item-index l.items)));
  len : vec_len l.out ≡ vec_len l.fn.out + 3 + l.item-index;
  capacity : vec_capacity l.fn.out ≤ vec_capacity l.out;
}
