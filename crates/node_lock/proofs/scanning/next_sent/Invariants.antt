use Rattle.std.proofs.Common.{◌≡◌}
use Rattle.node_lock.specs.Waiting.{waiting}
use Rattle.node_lock.proofs.scanning.next_sent.Given as goal

abbrev pub invariant-loop-at : goal.invariant-loop-at
invariant-loop-at l = waiting (l.trunk, l.peer) l.at l.from l.entries ≡ waiting (l.trunk, l.peer) l.entry l.effects l.entries
