use Rattle.std.proofs.Common.{◌≡◌, take}
use Rattle.world_core.proofs.line.Line.copy.Given as goal

abbrev pub invariant-loop-trunk : goal.invariant-loop-trunk
invariant-loop-trunk l = l.queues.entries ≡ take l.trunk-index l.trunk-items
