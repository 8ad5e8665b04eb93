-- What a caller may ask for, and whether there is a node of the name that it names.
use Rattle.std.specs.Prelude.{◌≡◌, Bool, true, false, List}
use Rattle.dist_model.specs.Dialing.{has_name}
use Rattle.dist_model.specs.Names.{Name}
use Rattle.node_core.specs.declared.node_event.NodeEvent.{NodeEvent}
use Rattle.node_core.specs.declared.node_event.NodeEvent.TheVariants as event

-- the others are the doing of the node's thread
abbrev pub is_act : NodeEvent → Bool
is_act (event.Arrive trunk word) = false
is_act event.Local = false
is_act event.Sweep = false
is_act _ = true

abbrev pub Knows : List Name → NodeEvent → Bool → Type 0
Knows names (event.Dial peer word) is_known = has_name peer names ≡ is_known
Knows names _ is_known = Unit {0}
