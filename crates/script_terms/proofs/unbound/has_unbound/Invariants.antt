use Rattle.std.proofs.Common.{◌≡◌, ◌+◌, length}
use Rattle.script_terms.specs.Binding.{Look, Knows}
use Rattle.script_terms.specs.Unbound.{has_unbound, unbound_from}
use Rattle.script_terms.proofs.unbound.has_unbound.Given as goal

abbrev pub invariant-loop : goal.invariant-loop
invariant-loop l =
    (length l.rest + l.counter ≡ length l.text)
    × ((look : Look) → Knows l.names look → unbound_from look l.place l.rest ≡ has_unbound look l.text)
