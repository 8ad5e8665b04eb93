use Rattle.std.proofs.Common.{◌≡◌, ◌++◌, ◌+◌, ◌≤◌, length, take, vec_len, vec_capacity}
use Rattle.std.specs.List.{flat_map}
use Rattle.erl_term.specs.Canonical.{canonical_term}
use Rattle.erl_term.specs.View.{view}
use Rattle.erl_term.proofs.writing.+write.Given as goal

abbrev pub invariant-write_items-loop-item : goal.invariant-write_items-loop-item
invariant-write_items-loop-item l = record {
  items : l.out.items ≡ l.fn.out.items ++ flat_map (λ t. canonical_term (view t)) (take l.item-index l.items);
  len : vec_len l.out ≡ vec_len l.fn.out + length (flat_map (λ t. canonical_term (view t)) (take l.item-index l.items));
  capacity : vec_capacity l.fn.out ≤ vec_capacity l.out;
}
