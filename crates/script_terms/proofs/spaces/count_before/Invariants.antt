use Rattle.std.proofs.Common.{◌≡◌, ◌+◌, length}
use Rattle.script_terms.specs.Spaces.{count_before}
use Rattle.script_terms.specs.declared.unbound.Place.TheVariants.{Outside}
use Rattle.script_terms.proofs.spaces.count_before.Given as goal

abbrev pub invariant-loop-count : goal.invariant-loop-count
invariant-loop-count l =
    (length l.rest + l.count ≡ length l.text)
    × (count_before l.place l.rest + l.count ≡ count_before Outside l.text)
