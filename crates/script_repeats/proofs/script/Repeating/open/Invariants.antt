use Rattle.std.proofs.Common.{ℕ, [], take}
use Rattle.script_repeats.proofs.script.Repeating.open.Given as goal
use Rattle.script_repeats.specs.Steps.{HasOpened}

abbrev pub invariant-loop-place : goal.invariant-loop-place
invariant-loop-place l = (seed : ℕ) → HasOpened seed [] l.fn.self → HasOpened seed (take l.place l.nodes) l.self
