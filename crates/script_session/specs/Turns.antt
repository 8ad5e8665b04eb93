-- The events that happen of their own accord, until no more can.
-- (ERTS User's Guide, Distribution Protocol; Reference Manual, Processes, Delivery of Signals. The order of turns is own.)
use Rattle.std.specs.Prelude.{Option, None, Some, is_some, ℕ, zero, suc, true, not, if◌then◌else◌, List, [], ◌∷◌, ◌++◌}
use Rattle.std.specs.FinMap as fm
use Rattle.std.specs.Option.{option_map, option_or}
use Rattle.dist_model.specs.Losses.{any_side}
use Rattle.dist_model.specs.Node.{Node}
use Rattle.dist_model.specs.Sides.{is_losing}
use Rattle.dist_model.specs.World.{Arrive, Event, Local, Sweep, World, first_of}
use Rattle.node_core.specs.declared.node_event.NodeEvent.{NodeEvent}
use Rattle.script_session.specs.Stage.{Scene, Stage, after, says, trace_of}
use Rattle.script_session.specs.declared.turn.Turn.{Turn}
use Rattle.script_texts.specs.Texts.{settled_text}
use Rattle.world_core.specs.Coming.{next_arrival}

-- at a node that is up: a signal to itself, then a record of a lost connection, then what comes from its peers
abbrev pub turn_at : World → ℕ → Node → Option Event
turn_at world word node =
    if not node.up then None
    else if is_some (first_of node.local) then Some (Local node.mint.name)
    else if is_some (any_side is_losing (fm.entries node.sides)) then Some (Sweep node.mint.name)
    else option_map (λ trunk. Arrive trunk node.mint.name word) (next_arrival world node None)

-- of the first node that has a turn
abbrev pub first_turn : World → ℕ → List Node → Option Event
first_turn world word [] = None
first_turn world word (node ∷ rest) = option_or (turn_at world word node) (first_turn world word rest)

abbrev pub turn : Stage → Option Event
turn stage = first_turn stage.world stage.word stage.world.nodes

-- the trace of an event is printed before the text of the rest
abbrev pub goes_on : Event → Stage → (Stage → Scene) → Scene
goes_on event stage rest =
    let scene = rest (after stage event) in record { stage = scene.stage; text = trace_of stage event ++ scene.text; made = scene.made }

abbrev pub takes_turn : Option Event → Stage → (Stage → Scene) → Scene
takes_turn None stage rest = says (settled_text true) stage
takes_turn (Some event) stage rest = goes_on event stage rest

-- the event of a turn in code
abbrev pub event_of : (word : ℕ) → Turn → NodeEvent
event_of word Turn.Local = NodeEvent.Local
event_of word Turn.Sweep = NodeEvent.Sweep
event_of word (Turn.Arrive trunk) = NodeEvent.Arrive trunk word

-- at most so many turns
unfoldable pub settles : ℕ → Stage → Scene
settles zero stage = says (settled_text (not (is_some (turn stage)))) stage
settles (suc most) stage = takes_turn (turn stage) stage (settles most)
