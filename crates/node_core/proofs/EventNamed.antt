-- An event of the model is that of its node.
use Rattle.std.proofs.Common.{◌≡◌, refl}
use Rattle.dist_model.specs.Names.{Name}
use Rattle.dist_model.specs.World.{node_name}
use Rattle.node_core.specs.NodeEvents.{event_at}
use Rattle.node_core.specs.declared.node_event.NodeEvent.{NodeEvent}
use Rattle.node_core.specs.declared.node_event.NodeEvent.TheVariants as event

pub event_named : (own : Name) (e : NodeEvent) → node_name (event_at own e) ≡ own
event_named own (event.Call command) = refl
event_named own e = refl
