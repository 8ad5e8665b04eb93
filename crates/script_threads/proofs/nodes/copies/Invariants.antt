use Rattle.std.proofs.Common.{◌≡◌, take}
use Rattle.script_threads.proofs.nodes.copies.Given as goal

-- those so far
abbrev pub invariant-loop-name : goal.invariant-loop-name
invariant-loop-name l = l.copies.items ≡ take l.name-index l.nodes
