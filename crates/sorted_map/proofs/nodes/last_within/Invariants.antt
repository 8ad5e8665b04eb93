use Rattle.std.proofs.Common.{◌≡◌, None, length}
use Rattle.std.specs.List.{last_or}
use Rattle.std.specs.Option.{option_copied}
use Rattle.sorted_map.specs.Sides.{items_of}
use Rattle.sorted_map.proofs.nodes.last_within.Given as goal

abbrev pub invariant-loop-below : goal.invariant-loop-below
invariant-loop-below g l = last_or (option_copied l.found) (items_of l.below) ≡ last_or None (items_of l.side)

abbrev pub decreases-loop-below : goal.decreases-loop-below
decreases-loop-below g l = length (items_of l.below)
