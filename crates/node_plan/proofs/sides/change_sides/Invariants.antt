use Rattle.std.proofs.Common.{◌≡◌, length}
use Rattle.node_plan.specs.Suits.{LetsAll}
use Rattle.node_plan.specs.Changed.{sides_after}
use Rattle.node_tables.specs.Sides.{HasRouteRoom, HasSideRoom, sides}
use Rattle.node_plan.proofs.sides.change_sides.Given as goal

-- the changes that are left can be made, and lead where all lead
abbrev pub invariant-loop-change : goal.invariant-loop-change
invariant-loop-change l = record {
  lets : LetsAll l.change-iterator.rest.items (sides l.sides);
  side_room : HasSideRoom (length l.change-iterator.rest.items) l.sides;
  route_room : HasRouteRoom (length l.change-iterator.rest.items) l.sides;
  leads : sides_after l.change-iterator.rest.items (sides l.sides) ≡ sides_after l.fn.changes.items (sides l.fn.sides);
}
