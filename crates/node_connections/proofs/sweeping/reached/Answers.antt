use Rattle.node_connections.proofs.Began.{from_beginning}
use Rattle.node_connections.proofs.sweeping.reached.Goals as goal

pub returns-else-is_towards : goal.returns-else-is_towards
returns-else-is_towards c = from_beginning c.args.node.now c.args.peer.now c.args.beginning.now c.requires.begins
