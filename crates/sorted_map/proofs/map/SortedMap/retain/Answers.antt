use Rattle.std.proofs.Common.{sym, subst, T}
use Rattle.std.specs.FinMap.{is_sorted}
use Rattle.sorted_map.proofs.Places.{sorted_kept}
use Rattle.sorted_map.proofs.map.SortedMap.retain.Goals as goal

pub invariant_of-self : goal.invariant_of-self
invariant_of-self g c =
    subst (λ l. T (is_sorted g.K.Ord.cmp l)) (sym c.retain.ensures.filtered.4) (sorted_kept g.met.K.Ord.total _ _ c.self.invariant)
