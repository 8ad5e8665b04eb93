-- The telling of an event as JSON, and the picture of a script's events.
use Rattle.std.specs.Prelude.{◌≡◌, [], Bool, true, false, Option, None, Some}
use Rattle.diagram.specs.declared.rows.Diagram.{Diagram}
use Rattle.run_diagrams.specs.Recording.{IsPictureOf}
use Rattle.run_diagrams.specs.declared.recorder.Recorder.{Recorder}
use Rattle.script_json.specs.Events.{event_data}
use Rattle.serde_json.specs.View.{view}
use Rattle.serde_json.specs.declared.value.Value.{Value}
use Rattle.node_core.specs.declared.node_event.NodeEvent.{NodeEvent}

abbrev pub IsTold : (is_on : Bool) → NodeEvent → Option Value → Type 0
IsTold true happened (Some told) = view told ≡ event_data happened
IsTold false happened None = Unit {0}
IsTold _ happened _ = ⊥

-- a picture is drawn that has no rows yet
abbrev pub IsDrawing : Option Recorder → Type 0
IsDrawing None = ⊥
IsDrawing (Some recorder) = recorder.diagram.rows.items ≡ []

-- the diagram that is taken: that of the recorder, or an empty one if nothing was drawn
abbrev pub IsTaken : Option Recorder → Diagram → Type 0
IsTaken None diagram = diagram.rows.items ≡ []
IsTaken (Some recorder) diagram = IsPictureOf recorder diagram
