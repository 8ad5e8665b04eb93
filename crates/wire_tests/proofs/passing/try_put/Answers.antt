use Rattle.std.proofs.Common.{sym, subst}
use Rattle.wire_tests.proofs.Items.{are_cut, one_more}
use Rattle.wire_tests.specs.Whole.{AreItems}
use Rattle.wire_tests.proofs.passing.try_put.Goals as goal

pub put-requires : goal.put-requires
put-requires g c = are_cut _ _ c.requires c.in-Some.ensures

pub returns-in-Ok : goal.returns-in-Ok
returns-in-Ok g c = subst AreItems (sym c.in-Ok.ensures.put) (one_more _ _ c.requires c.in-Some.ensures)
