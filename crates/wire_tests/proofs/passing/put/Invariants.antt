use Rattle.std.proofs.Common.{◌≡◌}
use Rattle.wire_core.specs.Spellings.{SpellsItem}
use Rattle.wire_tests.specs.Whole.{AreItems}
use Rattle.wire_tests.proofs.passing.put.Given as goal

abbrev pub invariant-loop : goal.invariant-loop
invariant-loop g l =
    (goal.iterator-loop g).can_next l.iterator' × (goal.iterator-loop g).is_finite l.iterator'
    × (l.out.wire ≡ l.initial.out.wire) × AreItems l.out.pieces
    × SpellsItem l.waiting.bytes
