use Rattle.std.proofs.Common.{◌≡◌}
use Rattle.wire_tests.specs.Whole.{AreItems}
use Rattle.wire_tests.proofs.passing.put_all.Given as goal

abbrev pub invariant-loop-parcel : goal.invariant-loop-parcel
invariant-loop-parcel g l = (l.out.wire ≡ l.initial.out.wire) × AreItems l.out.pieces
