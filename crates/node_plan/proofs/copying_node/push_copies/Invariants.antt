use Rattle.std.proofs.Common.{◌≡◌, ◌++◌, take}
use Rattle.node_plan.proofs.copying_node.push_copies.Given as goal

abbrev pub invariant-loop-signal : goal.invariant-loop-signal
invariant-loop-signal l = l.copies.items ≡ l.fn.copies.items ++ take l.signal-index l.signals
