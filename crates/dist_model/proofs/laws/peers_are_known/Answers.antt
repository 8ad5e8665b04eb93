use Rattle.dist_model.proofs.laws.peers_are_known.Goals as goal
use Rattle.dist_model.proofs.KnownPeers.{agreed, connected, future, known, lasting, told}

pub returns : goal.returns
returns c = record { told = told; known = known; connected = connected; payload = agreed; future = future; lasting = lasting }
