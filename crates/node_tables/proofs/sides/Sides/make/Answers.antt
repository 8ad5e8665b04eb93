use Rattle.std.proofs.Common.{ap, arith}
use Rattle.node_tables.specs.Changes.{sides_added}
use Rattle.node_tables.proofs.sides.Sides.make.Goals as goal

pub returns-in-Adds-clause-side_room : goal.returns-in-Adds-clause-side_room
returns-in-Adds-clause-side_room c more h = c.add.ensures.side_room more (omega (arith, ap sides_added c.in-Adds.is))

pub returns-in-Stands-clause-side_room : goal.returns-in-Stands-clause-side_room
returns-in-Stands-clause-side_room c more h = c.stand.ensures.side_room more (omega (arith, ap sides_added c.in-Stands.is))

pub returns-in-ComesUp-clause-side_room : goal.returns-in-ComesUp-clause-side_room
returns-in-ComesUp-clause-side_room c more h = c.come_up.ensures.side_room more (omega (arith, ap sides_added c.in-ComesUp.is))
