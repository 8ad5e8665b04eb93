use Rattle.std.proofs.Common.{◌<◌, ◌∷◌, ◌++◌, [], T, length, sym, subst, arith}
use Rattle.std.specs.FinMap.{is_sorted}
use Rattle.erl_names.specs.Order.{name_cmp}
use Rattle.world_core.specs.Lists.{Lines}
use Rattle.world_core.proofs.Copied.{sorted_so_far}
use Rattle.world_core.proofs.lists.Lists.copy.Goals as goal

pub push_copy-requires : goal.push_copy-requires
push_copy-requires c =
    let entries = c.entries-to-items.result.now in
    let entry = c.loop-to-item.result in
    let below : c.loop-to.to-index < length entries = omega arith in
    let sorted =
    subst (λ (lines : Lines). T (is_sorted name_cmp lines)) (sym c.entries-to-items.ensures.entries) c.entries-to-items.ensures.sorted in
    subst (λ (lines : Lines). T (is_sorted name_cmp (lines ++ entry ∷ []))) (sym c.loop-to.invariant)
    (sorted_so_far name_cmp entries c.loop-to.to-index entry below c.loop-to-item.is sorted)
