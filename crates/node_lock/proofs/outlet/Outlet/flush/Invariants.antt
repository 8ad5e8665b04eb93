use Rattle.node_lock.specs.Feeding.{Fed, KeepsFeeding}
use Rattle.node_lock.specs.Passing.{Puts}
use Rattle.node_lock.proofs.outlet.Outlet.flush.Given as goal

abbrev pub invariant-loop-count : goal.invariant-loop-count
invariant-loop-count g l =
    Fed l.entries l.self × KeepsFeeding l.entries l.initial.self l.self × Puts l.entries l.initial.self l.self l.count
