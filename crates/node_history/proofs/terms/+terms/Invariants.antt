use Rattle.std.proofs.Common.{◌≡◌, map, take}
use Rattle.erl_term.specs.View.{view}
use Rattle.node_history.proofs.terms.+terms.Given as goal

abbrev pub invariant-are_same_terms-loop-place : goal.invariant-are_same_terms-loop-place
invariant-are_same_terms-loop-place l = map view (take l.place l.a) ≡ map view (take l.place l.b)
