use Rattle.std.proofs.Common.{ℕ, [], take}
use Rattle.script_repeats.proofs.script.Repeating.enter_all.Given as goal
use Rattle.script_repeats.specs.Steps.{HasRepeated}

abbrev pub invariant-loop-placed : goal.invariant-loop-placed
invariant-loop-placed l =
    (seed : ℕ) → HasRepeated seed l.nodes l.books [] l.fn.self → HasRepeated seed l.nodes l.books (take l.placed-index l.entries) l.self
