use Rattle.std.proofs.Common.{length}
use Rattle.sorted_map.specs.Sides.{items_of}
use Rattle.sorted_map.proofs.entries.+exchanged.Given as goal

abbrev pub decreases-exchanged : goal.decreases-exchanged
decreases-exchanged g l = length (items_of l.side.now)
