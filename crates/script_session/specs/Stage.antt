-- The stage of a script: its world, and the text of an event there.
-- (ERTS User's Guide, Distribution Protocol; Reference Manual, Processes; Distributed Erlang.)
use Rattle.std.specs.Prelude.{is_some, ℕ, ◌+◌, ◌%◌, ◌^◌, Bool, true, false, not, if◌then◌else◌, List, [], ◌∷◌, ◌++◌}
use Rattle.dist_model.specs.Names.{Name}
use Rattle.dist_model.specs.Seen.{side_of_trunk}
use Rattle.dist_model.specs.World.{Arrive, Dial, Event, Refused, Report, Reported, World, node_name, step}
use Rattle.dist_model.specs.declared.report.Answer.{Answer}
use Rattle.run_traces.specs.Breaks.{Breaks, breaks_with, source}
use Rattle.run_traces.specs.Traces.{trace_text}
use Rattle.run_traces.specs.declared.trace.Trace.{Trace}
use Rattle.script_session.specs.declared.made.Made.{Made}
use Rattle.script_session.specs.declared.made.Made.TheVariants.{Nothing, One}
use Rattle.script_terms.specs.declared.names.Named.TheVariants.{Monitor, Process}
use Rattle.script_texts.specs.Texts.{answer_text, refused_text}

pub record Stage : Type 0 where
  pub world : World
  -- the next challenge
  pub word : ℕ
  -- the form in which the items that are sent are printed
  pub trace : Trace
  -- the connections that have broken
  pub breaks : Breaks

-- ---- the printed text of an event

abbrev pub came_text : Name → Report → List ℕ
came_text node (Refused why) = refused_text why
came_text node (Reported answer effects) = answer_text node answer

-- ---- the stage after an event

-- challenges are numbers of 32 bits, and begin again behind the last
abbrev pub next_word : ℕ → ℕ
next_word word = (word + 1) % 2 ^ 32

-- a node that dials takes a challenge, be it refused or not, and one to which a connection comes that is new to it
abbrev pub takes_word : World → Event → Bool
takes_word world (Dial node peer word) = true
takes_word world (Arrive trunk node word) = not (is_some (side_of_trunk world node trunk))
takes_word world _ = false

abbrev pub after : Stage → Event → Stage
after stage event = record {
  world = (step stage.world event).world;
  word = if takes_word stage.world event then next_word stage.word else stage.word;
  trace = stage.trace;
  breaks = breaks_with (node_name event) (source stage.world event) (step stage.world event).report stage.breaks;
}

-- each event of a list, under the challenge that is next
unfoldable pub play : List (ℕ → Event) → Stage → Stage
play [] stage = stage
play (event ∷ rest) stage = play rest (after stage (event stage.word))

-- ---- a command: what it makes of the stage, what it prints, and what a name may be bound to

pub record Scene : Type 0 where
  pub stage : Stage
  pub text : List ℕ
  pub made : Made

abbrev pub says : List ℕ → Stage → Scene
says text stage = record { stage = stage; text = text; made = Nothing }

-- a process that was spawned, or the reference of a monitor
abbrev pub made_by : Report → Made
made_by (Reported (Answer.Pid p) effects) = One (Process p)
made_by (Reported (Answer.Reference r) effects) = One (Monitor r)
made_by report = Nothing

abbrev pub trace_of : Stage → Event → List ℕ
trace_of stage event = trace_text stage.trace (node_name event) (source stage.world event) (step stage.world event).report

-- one event: its trace, and then its outcome
abbrev pub happens : Event → Stage → Scene
happens event stage = record {
  stage = after stage event;
  text = trace_of stage event ++ came_text (node_name event) (step stage.world event).report;
  made = made_by (step stage.world event).report;
}
