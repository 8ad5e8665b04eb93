use Rattle.node_tables.proofs.Whole.{no_sides}
use Rattle.node_tables.proofs.sides.Sides.new.Goals as goal

pub returns : goal.returns
returns c = no_sides _ _ c.new.ensures.items c.new-2.ensures.items
