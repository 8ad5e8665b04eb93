-- The event of a line.
use Rattle.std.proofs.Common.{◌≡◌, ℕ, true, false, Bor, List, is_some, true≢false, None, Option, Some, Err, IfOk, IfSome, Ok, Result, ap, refl, subst, sym, ◌∙◌}
use Rattle.std.specs.Option.{option_copied}
use Rattle.dist_model.specs.Names.{Name}
use Rattle.dist_model.specs.World.{Call, Event}
use Rattle.dist_model.specs.declared.command.Command.{Command}
use Rattle.node_core.specs.NodeEvents.{event_at}
use Rattle.node_core.specs.declared.node_event.NodeEvent.{NodeEvent}
use Rattle.script_lines.specs.Replies.{expected}
use Rattle.script_lines.specs.Said.{Said, said}
use Rattle.script_lines.specs.Said as says
use Rattle.script_lines.specs.declared.line.Line.{Line}
use Rattle.script_session.specs.Events.{IsEventOf, IsJust}
use Rattle.script_session.specs.Session.{State, asks, does, moves, plays, plays_as, says_does, starts}
use Rattle.script_session.specs.Stage.{Scene, Stage}
use Rattle.script_terms.specs.Binding.{Look}

runs : (state : State) (line : Said) → expected line ≡ None → starts line ≡ true → says_does state (Ok (Some line)) ≡ Ok (does line state)
runs state (says.Node name cookie profile) e s = absurd cc
runs state (says.Expect words) e s = absurd cc
runs state _ e s = refl

asked_just : (look : Look) (line : Said) (it : Stage) (asked : Name × Command) → Some asked ≡ asks look line
    → IsJust (plays look line) it (Call asked.0 asked.1)
asked_just look line it asked is =
    record { own = Call asked.0 asked.1; happens = ap (λ (o : Option (Name × Command)). plays_as o line it) (sym is); is = refl }

moved_just : (look : Look) (line : Said) (it : Stage) (event : Event) → None ≡ asks look line → IsJust (moves line) it event
    → IsJust (plays look line) it event
moved_just look line it event is just = record {
  own = just.own;
  happens = ap (λ (o : Option (Name × Command)). plays_as o line it) (sym is) ∙ just.happens;
  is = just.is;
}

-- a line with a command for a node
pub asked_event : (state : State) (line : Said) (asked : Name × Command) → expected line ≡ None → starts line ≡ true
    → Some asked ≡ asks state.names line → IsEventOf state line (Call asked.0 asked.1)
asked_event state line asked e s is = record { runs = runs state line e s; just = asked_just state.names line state.stage asked is }

-- a line without one
pub moved_event : (state : State) (line : Said) (event : Event) → expected line ≡ None → starts line ≡ true
    → None ≡ asks state.names line → IsJust (moves line) state.stage event → IsEventOf state line event
moved_event state line event e s is just =
    record { runs = runs state line e s; just = moved_just state.names line state.stage event is just }

-- an event that was made for a line
pub at_just : {E : Type 0} (r : Result (Option (Name × NodeEvent)) E) (node : Name) (event : NodeEvent) (scene : Stage → Scene) (it : Stage)
    → IfOk r (λ own. own ≡ Some (node, event)) → IsJust scene it (event_at node event)
    → IfOk r (λ own. IfSome own (λ found. IsJust scene it (event_at found.0 found.1)))
at_just (Ok own) node event scene it is just =
    subst (λ (o : Option (Name × NodeEvent)). IfSome o (λ found. IsJust scene it (event_at found.0 found.1))) (sym is) just
at_just (Err e) node event scene it is just = tt

-- of a line of this kind
pub just_of : (line kind : Line) (it : Stage) (event : Event) → line ≡ kind → IsJust (moves (said kind)) it event → IsJust (moves (said line)) it event
just_of line kind it event is just = subst (λ (l : Line). IsJust (moves (said l)) it event) (sym is) just

pub moved_in : {E : Type 0} (state : State) (line : Said) (r : Result (Option (Name × NodeEvent)) E) → expected line ≡ None → starts line ≡ true
    → None ≡ asks state.names line → IfOk r (λ own. IfSome own (λ found. IsJust (moves line) state.stage (event_at found.0 found.1)))
    → IfOk r (λ own. IfSome own (λ found. IsEventOf state line (event_at found.0 found.1)))
moved_in state line (Ok None) e s is h = tt
moved_in state line (Ok (Some found)) e s is h = moved_event state line (event_at found.0 found.1) e s is h
moved_in state line (Err why) e s is h = tt

-- of which no words are expected
pub none_expected : (words : Option (List ℕ)) (found : Option (Bor (List ℕ))) → option_copied found ≡ words → is_some found ≡ false → words ≡ None
none_expected words None same none = sym same
none_expected words (Some found) same none = absurd (true≢false none)
