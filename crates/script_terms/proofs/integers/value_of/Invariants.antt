use Rattle.std.proofs.Common.{◌≡◌, drop}
use Rattle.std.specs.Str.Parse.{digits_value, digits_value_after}
use Rattle.script_terms.proofs.integers.value_of.Given as goal

abbrev pub invariant-loop-c : goal.invariant-loop-c
invariant-loop-c l = digits_value_after l.radix l.value (drop l.c-index l.digits) ≡ digits_value l.radix l.digits
