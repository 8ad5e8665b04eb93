use Rattle.dist_model.proofs.laws.node_keeps_its_bearings.Goals as goal
use Rattle.dist_model.proofs.KeepBearings.{bearings_kept, if_accepted}
use Rattle.dist_model.specs.Keeping.{Bearings}
use Rattle.dist_model.specs.NodeEvents.{at_node}

pub returns : goal.returns
returns c = record { kept = λ names n e a o h. if_accepted (Bearings n e) (at_node names n e) a o h (bearings_kept names n e) }
