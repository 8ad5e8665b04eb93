-- An event of a node in code, as the model has it.
-- (ERTS User's Guide, Distribution Protocol; Reference Manual, Processes; Distributed Erlang.)
use Rattle.std.specs.Prelude.{Option}
use Rattle.dist_model.specs.Items.{Item}
use Rattle.dist_model.specs.Names.{Name}
use Rattle.dist_model.specs.NodeEvents as of_node
use Rattle.dist_model.specs.World as model
use Rattle.node_core.specs.declared.node_event.NodeEvent.{NodeEvent}
use Rattle.node_core.specs.declared.node_event.NodeEvent.TheVariants as event

-- as the node of the model meets it, with what comes next on a connection
abbrev pub met : NodeEvent → Option Item → of_node.NodeEvent
met (event.Call command) first = of_node.Call command
met (event.Arrive trunk word) first = of_node.Arrive trunk first word
met event.Local first = of_node.Local
met (event.Lose trunk) first = of_node.Lose trunk
met event.Sweep first = of_node.Sweep
met (event.Dial peer word) first = of_node.Dial peer word
met event.Stop first = of_node.Stop
met event.Start first = of_node.Start

-- the model's event at the node of this name
abbrev pub event_at : Name → NodeEvent → model.Event
event_at name (event.Call command) = model.Call name command
event_at name (event.Arrive trunk word) = model.Arrive trunk name word
event_at name event.Local = model.Local name
event_at name (event.Lose trunk) = model.Lose trunk name
event_at name event.Sweep = model.Sweep name
event_at name (event.Dial peer word) = model.Dial name peer word
event_at name event.Stop = model.Stop name
event_at name event.Start = model.Start name
