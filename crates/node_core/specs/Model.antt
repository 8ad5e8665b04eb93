-- The node of the model that a node stands for, and a plan that was made for it as it is.
use Rattle.dist_model.specs.Node as model
use Rattle.node_core.specs.declared.node.Node.{Node}
use Rattle.node_core.specs.declared.planned.Planned.{Planned}
use Rattle.node_core.specs.Suiting.{Suits}
use Rattle.node_plan.specs.Seen.{seen}

abbrev pub model_of : Node → model.Node
model_of node = seen node.state

abbrev pub IsFor : Node → Planned → Type 0
IsFor node planned = Suits node.state planned
