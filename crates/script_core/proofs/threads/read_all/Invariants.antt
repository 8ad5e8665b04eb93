use Rattle.std.proofs.Common.{ℕ, List}
use Rattle.script_core.specs.Threaded.{Along}
use Rattle.script_threads.specs.Standing.{Known}
use Rattle.script_core.proofs.threads.read_all.Given as goal

abbrev pub invariant-loop : goal.invariant-loop
invariant-loop g l =
    (from : Known) (input : List ℕ) → Along from input (g.R.Read.remaining l.fn.reader) l.fn.script
    → Along from input (g.R.Read.remaining l.reader) l.script
