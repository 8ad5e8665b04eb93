use Rattle.wire_tests.specs.Whole.{AreItems}
use Rattle.wire_tests.proofs.passing.fills.Given as goal

abbrev pub invariant-loop-seq : goal.invariant-loop-seq
invariant-loop-seq g l = AreItems l.out.pieces
