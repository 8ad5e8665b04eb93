-- A node counts the connections that it has dialed.
use Rattle.dist_model.specs.Keeping.{CountsOwn}
use Rattle.node_core.specs.Model.{model_of}
use Rattle.node_core.specs.declared.node.Node.{Node}

pub counts_of : (node : Node) → CountsOwn (model_of node)
counts_of node = node.state.counted
