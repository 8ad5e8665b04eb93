use Rattle.std.proofs.Common.{sym, subst}
use Rattle.wire_tests.proofs.Items.{are_cut, one_more}
use Rattle.wire_tests.specs.Whole.{AreItems}
use Rattle.wire_tests.proofs.passing.put.Goals as goal

pub put-requires : goal.put-requires
put-requires g c = are_cut _ _ c.loop.invariant.3 c.loop.invariant.4

pub returns-in-Ok-clause-after : goal.returns-in-Ok-clause-after
returns-in-Ok-clause-after g c = subst AreItems (sym c.in-Ok.ensures.put) (one_more _ _ c.loop.invariant.3 c.loop.invariant.4)
