use Rattle.std.proofs.Common.{◌≡◌, ◌-◌, ◌∷◌}
use Rattle.control_beginnings.proofs.Wrapping.{tuples}
use Rattle.control_beginnings.proofs.terms.term_begins.Given as goal

abbrev pub invariant-loop : goal.invariant-loop
invariant-loop l = l.text.items ≡ 131 ∷ tuples (l.counter - l.levels)
