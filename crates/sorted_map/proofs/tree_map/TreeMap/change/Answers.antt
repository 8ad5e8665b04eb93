use Rattle.std.proofs.Common.{T, sym, subst}
use Rattle.std.specs.FinMap.{is_sorted}
use Rattle.sorted_map.specs.Maps.{sorted_changed}
use Rattle.sorted_map.proofs.tree_map.TreeMap.change.Goals as goal

pub invariant_of-self : goal.invariant_of-self
invariant_of-self g c = (
  c.exchanged.ensures.all,
  subst (λ l. T (is_sorted g.K.Ord.cmp l)) (sym c.exchanged.ensures.entries)
      (sorted_changed g.met.K.Ord.total c.args.key.now c.args.value _ c.self.invariant.1),
)
