use Rattle.std.proofs.Common.{◌≡◌, ◌++◌, drop, map, take}
use Rattle.node_lock.specs.Passing.{with_piece}
use Rattle.node_lock.proofs.outlet.set_all.Given as goal

abbrev pub invariant-loop-at : goal.invariant-loop-at
invariant-loop-at l =
    l.outlets.items ≡ map (with_piece l.greatest.bytes) (take l.at l.initial.outlets.items) ++ drop l.at l.initial.outlets.items
