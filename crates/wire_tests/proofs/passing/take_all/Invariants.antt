use Rattle.std.proofs.Common.{◌≡◌}
use Rattle.wire_tests.proofs.passing.take_all.Given as goal

abbrev pub invariant-loop-seq : goal.invariant-loop-seq
invariant-loop-seq g l = l.into.wire ≡ l.initial.into.wire
