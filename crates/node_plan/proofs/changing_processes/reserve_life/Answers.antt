use Rattle.std.specs.Prelude.{Option}
use Rattle.node_tables.specs.Room.{LinkFits}
use Rattle.node_tables.specs.declared.end_change.EndChange.{EndChange}
use Rattle.node_tables.specs.declared.life.Life.{Life}
use Rattle.node_plan.specs.RoomForChanges.{EndFits}
use Rattle.node_plan.specs.declared.change.LinkChange.{LinkChange}
use Rattle.node_plan.specs.declared.change.LinkChange.TheVariants as link
use Rattle.node_plan.proofs.changing_processes.reserve_life.Goals as goal

kept_by : (old new : Option Life) → ((change : EndChange) → LinkFits change old → LinkFits change new) → (l : LinkChange)
    → EndFits l old → EndFits l new
kept_by old new k link.Stays h = tt
kept_by old new k (link.Becomes q how) h = k how h

pub returns-in-Gets-clause-kept : goal.returns-in-Gets-clause-kept
returns-in-Gets-clause-kept c = kept_by _ _ c.reserve_message.ensures.kept
