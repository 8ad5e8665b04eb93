-- What a caller may ask for, as an event.
use Rattle.node_lock.specs.declared.act.Act.{Act}
use Rattle.node_lock.specs.declared.act.Act.TheVariants as act
use Rattle.node_core.specs.declared.node_event.NodeEvent.{NodeEvent}
use Rattle.node_core.specs.declared.node_event.NodeEvent.TheVariants as event

abbrev pub event_of : Act → NodeEvent
event_of (act.Run command) = event.Call command
event_of (act.Dial peer word) = event.Dial peer word
event_of (act.Lose trunk) = event.Lose trunk
event_of act.Stop = event.Stop
event_of act.Start = event.Start
