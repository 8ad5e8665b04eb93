use Rattle.dist_model.proofs.laws.links_need_a_connection.Goals as goal
use Rattle.dist_model.proofs.Run.{always}
use Rattle.dist_model.proofs.Safety.{good_opening, link_needs_connection}
use Rattle.dist_model.specs.Claims.{LinkNeedsConnection}

pub returns : goal.returns
returns c = record { connected = always LinkNeedsConnection good_opening link_needs_connection }
