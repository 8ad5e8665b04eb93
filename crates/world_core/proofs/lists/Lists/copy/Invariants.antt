use Rattle.std.proofs.Common.{◌≡◌, take}
use Rattle.world_core.proofs.lists.Lists.copy.Given as goal

abbrev pub invariant-loop-to : goal.invariant-loop-to
invariant-loop-to l = l.lines.entries ≡ take l.to-index l.to-items
