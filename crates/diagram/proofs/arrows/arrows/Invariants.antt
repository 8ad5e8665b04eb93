use Rattle.std.proofs.Common.{◌≡◌, ◌++◌, drop}
use Rattle.diagram.specs.Arrows.{paired, pairs}
use Rattle.diagram.specs.Queues.{seen_of}
use Rattle.diagram.proofs.arrows.arrows.Given as goal

abbrev pub invariant-loop-i : goal.invariant-loop-i
invariant-loop-i l =
    l.arrows.items ++ pairs l.traffic.lost (drop l.i l.traffic.sent.items) (drop l.i l.traffic.taken.items) ≡ paired (seen_of l.traffic)
