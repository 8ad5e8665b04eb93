use Rattle.std.proofs.Common.{◌≡◌, ◌+◌, ◌++◌, length}
use Rattle.script_terms.specs.Binding.{Look, Knows}
use Rattle.script_terms.specs.Filling.{filled, filled_from}
use Rattle.script_terms.proofs.filling.filled.Given as goal

abbrev pub invariant-loop : goal.invariant-loop
invariant-loop l =
    (length l.rest + l.counter ≡ length l.text)
    × ((look : Look) → Knows l.names look → l.out.items ++ filled_from look l.place l.left_out l.rest ≡ filled look l.text)
