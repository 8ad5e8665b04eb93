use Rattle.world_core.proofs.LeastArrival.{own_sides}
use Rattle.world_core.proofs.laws.nodes_take_by_their_own_sides.Goals as goal

pub returns : goal.returns
returns c = own_sides
