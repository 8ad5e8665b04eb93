use Rattle.std.proofs.Common.{◌≡◌, map, take}
use Rattle.diagram.specs.Arrows.{paired}
use Rattle.diagram.specs.Lists.{items_of}
use Rattle.diagram.specs.Queues.{seen_of}
use Rattle.diagram.proofs.arrows.all_arrows.Given as goal

abbrev pub invariant-loop-traffic : goal.invariant-loop-traffic
invariant-loop-traffic l = map items_of l.queues.items ≡ map (λ traffic. paired (seen_of traffic)) (take l.traffic-index l.table)
