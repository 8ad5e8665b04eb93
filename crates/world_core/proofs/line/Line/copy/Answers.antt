use Rattle.std.proofs.Common.{◌<◌, ◌∷◌, ◌++◌, [], T, length, sym, subst, arith}
use Rattle.std.specs.FinMap.{is_sorted}
use Rattle.erl_names.specs.Order.{trunk_cmp}
use Rattle.world_core.specs.Lists.{Line}
use Rattle.world_core.proofs.Copied.{sorted_so_far}
use Rattle.world_core.proofs.line.Line.copy.Goals as goal

pub push_copy-requires : goal.push_copy-requires
push_copy-requires c =
    let entries = c.entries-trunk-items.result.now in
    let entry = c.loop-trunk-item.result in
    let below : c.loop-trunk.trunk-index < length entries = omega arith in
    let sorted =
    subst (λ (line : Line). T (is_sorted trunk_cmp line)) (sym c.entries-trunk-items.ensures.entries) c.entries-trunk-items.ensures.sorted in
    subst (λ (line : Line). T (is_sorted trunk_cmp (line ++ entry ∷ []))) (sym c.loop-trunk.invariant)
    (sorted_so_far trunk_cmp entries c.loop-trunk.trunk-index entry below c.loop-trunk-item.is sorted)
