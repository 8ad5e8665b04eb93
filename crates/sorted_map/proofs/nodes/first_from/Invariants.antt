use Rattle.std.proofs.Common.{◌≡◌, length}
use Rattle.std.specs.Fn.{FnReturnsAt}
use Rattle.std.specs.Option.{option_copied}
use Rattle.std.specs.declared.cmp.Ordering.{Ordering}
use Rattle.sorted_map.specs.Indexed.{Tells, IsParted, first_not_less}
use Rattle.sorted_map.specs.Sides.{items_of}
use Rattle.sorted_map.proofs.Parted.{or_else}
use Rattle.sorted_map.proofs.nodes.first_from.Given as goal

abbrev pub invariant-loop-below : goal.invariant-loop-below
invariant-loop-below g l =
    (order : g.row.T.Denot → Ordering) → Tells (FnReturnsAt g.F.Fn l.order_of) order → IsParted order (items_of l.side)
    → IsParted order (items_of l.below) × (or_else (first_not_less order (items_of l.below)) (option_copied l.found) ≡ first_not_less order (items_of l.side))

abbrev pub decreases-loop-below : goal.decreases-loop-below
decreases-loop-below g l = length (items_of l.below)
