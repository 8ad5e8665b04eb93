-- The node of the model that a node stands for.
use Rattle.dist_model.specs.Node as model
use Rattle.node_plan.specs.SeenOf.{seen_of}
use Rattle.node_plan.specs.declared.node.Node.{Node}

abbrev pub seen : Node → model.Node
seen node = seen_of node.incarnation node.names node.own node.dialed node.watches node.watchers node.sides node.local.items
