-- The states that a stage and a session of code stand for, and the results of calls of them.
use Rattle.std.specs.Prelude.{◌≡◌, Bool, true, false, ℕ, List, ◌++◌, Some, Result, Ok, Err}
use Rattle.dist_model.specs.Names.{Name}
use Rattle.dist_model.specs.Runs.{opening}
use Rattle.dist_model.specs.World.{Event, World, step}
use Rattle.script_lines.specs.Lines.{line_says}
use Rattle.script_lines.specs.Said.{Said}
use Rattle.script_lines.specs.declared.reason.Reason.{Reason}
use Rattle.script_session.specs.Session.{State, Step, is_taken, line_does, may_come}
use Rattle.run_traces.specs.Breaks.{broken_by}
use Rattle.script_session.specs.Stage.{Scene, after, trace_of, Stage as TheStage}
use Rattle.script_session.specs.declared.made.Made.{Made}
use Rattle.script_session.specs.declared.session.Session.{Session}
use Rattle.script_session.specs.declared.session.Stop.{Stop}
use Rattle.script_session.specs.declared.session.Stop.TheVariants as stop
use Rattle.script_session.specs.declared.stage.Stage.{Stage}
use Rattle.script_terms.specs.Binding.{Knows}
use Rattle.node_core.specs.Told.{Answered, Tells}
use Rattle.world_core.specs.Stands.{IsReached, StandsFor}
use Rattle.erl_handshake.specs.declared.setup.Setup.{Setup}
use Rattle.erl_term.specs.declared.refusal.Refusal.{Refusal}

pub record IsStage (stage : Stage) (it : TheStage) : Type 0 where
  pub world : StandsFor stage.world it.world
  pub word : stage.word ≡ it.word
  pub trace : stage.trace ≡ it.trace
  pub breaks : broken_by stage.breaks ≡ it.breaks

abbrev pub IsOpening : World → Type 0
IsOpening world = (nodes : List (Name × Setup)) × (world ≡ opening nodes)

pub record IsSession (session : Session) (state : State) : Type 0 where
  pub stage : IsStage session.stage state.stage
  pub names : Knows session.names state.names
  pub reply : session.reply.line.items ≡ state.reply
  pub started : session.started ≡ state.started
  -- before a command has come, nothing has happened in the world
  pub opening : state.started ≡ false → IsOpening state.stage.world

-- ---- the result of an event

-- the outcome of an event, and not that memory was wanting
abbrev pub IsKept : (came kept : Answered) → Type 0
IsKept came kept = (kept ≡ came) × (kept ≡ Err Refusal.OutOfMemory → ⊥)

-- it has happened in the world, and its outcome is told. Nothing is printed of it yet
pub record Applied (event : Event) (it : TheStage) (new : Stage) (came : Answered) : Type 0 where
  pub world : StandsFor new.world (step it.world event).world
  pub word : new.word ≡ it.word
  pub trace : new.trace ≡ it.trace
  pub breaks : broken_by new.breaks ≡ it.breaks
  pub tells : Tells came (step it.world event).report

-- its trace is printed, and the connection that it breaks is noted. The challenge isn't taken yet
pub record Moved (event : Event) (it : TheStage) (new : Stage) (old_text new_text : List ℕ) (came : Answered) : Type 0 where
  pub world : StandsFor new.world (step it.world event).world
  pub word : new.word ≡ it.word
  pub trace : new.trace ≡ it.trace
  pub breaks : broken_by new.breaks ≡ (after it event).breaks
  pub text : new_text ≡ old_text ++ trace_of it event
  pub tells : Tells came (step it.world event).report

pub record Happened (event : Event) (it : TheStage) (new : Stage) (old_text new_text : List ℕ) (came : Answered) : Type 0 where
  pub stage : IsStage new (after it event)
  pub text : new_text ≡ old_text ++ trace_of it event
  pub tells : Tells came (step it.world event).report

-- ---- the results of a command and of a line

pub record Plays (scene : Scene) (new : Stage) (old_text new_text : List ℕ) (answer : Made) : Type 0 where
  pub stage : IsStage new scene.stage
  pub text : new_text ≡ old_text ++ scene.text
  pub made : answer ≡ scene.made

pub record Steps (does : Result Step Reason) (new : Session) (old_text new_text : List ℕ) : Type 0 where
  pub step : Step
  pub says : does ≡ Ok step
  pub state : IsSession new step.state
  pub text : new_text ≡ old_text ++ step.text

-- it can be run, or it expects a reply, which takes memory to compare
abbrev pub IsCommand : State → (line : List ℕ) → Type 0
IsCommand state line = (said : Said) × (line_says (may_come state) state.names line ≡ Ok (Some said)) × (is_taken said state.stage.world.names ≡ false)

-- a line was run, or is a bad line; memory may want only where it is a command
abbrev pub Obeys : State → (line : List ℕ) → Session → (old_text new_text : List ℕ) → Result (Unit {0}) Stop → Type 0
Obeys state line new old_text new_text (Ok x) = Steps (line_does state line) new old_text new_text
Obeys state line new old_text new_text (Err (stop.Bad reason)) = (line_does state line ≡ Err reason) × (new_text ≡ old_text)
Obeys state line new old_text new_text (Err stop.OutOfMemory) = IsCommand state line

-- words that are expected are the last reply, or aren't; or memory is wanting
abbrev pub Compares : (met : Bool) → Result (Unit {0}) Stop → Type 0
Compares met (Ok x) = met ≡ true
Compares met (Err (stop.Bad reason)) = (reason ≡ Reason.Unmet) × (met ≡ false)
Compares met (Err stop.OutOfMemory) = Unit {0}

-- ---- some events lead to the world of a state from an opening one

pub record IsLed (state : State) : Type 0 where
  pub reached : IsReached state.stage.world
  pub opening : state.started ≡ false → IsOpening state.stage.world
