-- Each line of a script: its effect on the session, and its output.
use Rattle.std.specs.Prelude.{Option, None, Some, ℕ, Bool, true, false, not, ◌==◌, ◌&&◌, nat_lt}
use Rattle.std.specs.Prelude.{if◌then◌else◌, List, [], ◌∷◌, ◌++◌, length, Result, Ok, Err}
use Rattle.std.specs.Option.{option_or}
use Rattle.dist_model.specs.Dialing.{has_name}
use Rattle.dist_model.specs.Names.{Name}
use Rattle.dist_model.specs.Runs.{new_node, opening}
use Rattle.dist_model.specs.Node.{Node, living}
use Rattle.dist_model.specs.Seen.{end_between}
use Rattle.dist_model.specs.World.{Call, Dial, Local, Start, Stop, Sweep, World, node_of}
use Rattle.dist_model.specs.declared.command.Command.{Command}
use Rattle.dist_model.specs.declared.report.Answer.{Answer}
use Rattle.erl_handshake.specs.declared.profile.Profile.{Profile}
use Rattle.erl_term.specs.Data.{Data, atom, list, no_items}
use Rattle.erl_term.specs.declared.term.Pid.{Pid}
use Rattle.script_lines.specs.Lines.{line_says}
use Rattle.script_lines.specs.Replies.{expected, is_met, reply_after}
use Rattle.script_lines.specs.Said.{Said}
use Rattle.script_lines.specs.Said as says
use Rattle.script_lines.specs.declared.reading.MayCome.{MayCome}
use Rattle.script_lines.specs.declared.reason.Reason.{Reason}
use Rattle.node_texts.specs.Monitors.{monitors_text}
use Rattle.run_traces.specs.Breaks.{none_broken}
use Rattle.run_traces.specs.declared.trace.Trace.{Trace}
use Rattle.script_session.specs.Connections.{cuts, delivers_by, explains, loses_by, refuses, routes, travels}
use Rattle.script_session.specs.Pairs.{pair_names, pair_stage}
use Rattle.script_session.specs.Stage.{Scene, Stage, happens}
use Rattle.script_session.specs.Stage as stage
use Rattle.script_session.specs.Turns.{settles}
use Rattle.script_session.specs.declared.made.Made.{Made}
use Rattle.script_terms.specs.Binding.{Look, with_name}
use Rattle.script_terms.specs.Reading.{term_of}
use Rattle.script_terms.specs.declared.fault.TermFault.{TermFault}
use Rattle.script_texts.specs.Texts.{answer_text, done_text, ends_text}
use Rattle.script_session.specs.Pairs.{setup_of}
use Rattle.world_texts.specs.Shown.{shown_world, whole_world}
use Rattle.erl_term.specs.declared.refusal.Refusal.{Refusal}

pub record State : Type 0 where
  pub stage : Stage
  -- the meaning of the script's names
  pub names : Look
  -- the last line that a command has printed
  pub reply : List ℕ
  -- true once a command has come that no line for a node may follow
  pub started : Bool

abbrev pub fresh_state : Trace → (word : ℕ) → State
fresh_state trace word = record {
  stage = record { world = opening []; word = word; trace = trace; breaks = none_broken };
  names = λ name. None;
  reply = [];
  started = false;
}

-- ---- the effect of a command on the stage, and its output

-- a line's text is a term: else it is a bad line
abbrev pub term_in : Result Data TermFault → Data
term_in (Ok t) = t
term_in (Err e) = list no_items

abbrev pub read : Look → List ℕ → Data
read look text = term_in (term_of look text)

-- the text of an ATOM is an atom: else it is a bad line
abbrev pub atom_in : Data → List ℕ
atom_in (atom a) = a
atom_in _ = []

abbrev pub read_atom : Look → List ℕ → List ℕ
read_atom look text = atom_in (read look text)

-- the world with one more node, in its first incarnation
abbrev pub joined : World → Name → (cookie : List ℕ) → Profile → World
joined world name cookie profile = record {
  names = world.names ++ name ∷ [];
  nodes = world.nodes ++ new_node name (setup_of cookie profile) ∷ [];
  lists = world.lists;
}

abbrev pub joins : Name → (cookie : List ℕ) → Profile → Stage → Scene
joins name cookie profile it = record {
  stage = record it { world = joined it.world name cookie profile };
  text = answer_text name (Answer.Started 1);
  made = Made.Nothing;
}

-- ---- the command of a line, and its node: that of the first process, or the one that the line names

-- a process acts on another
abbrev pub asks_of_two : Look → Said → Option (Name × Command)
asks_of_two look (says.Send from to term) = Some (from.node, Command.Send from to (read look term))
asks_of_two look (says.Link from to) = Some (from.node, Command.Link from to)
asks_of_two look (says.Unlink from to) = Some (from.node, Command.Unlink from to)
asks_of_two look (says.Monitor owner target name) = Some (owner.node, Command.Monitor owner target)
asks_of_two look (says.Exit from to term) = Some (from.node, Command.ExitTo from to (read look term))
asks_of_two look _ = None

-- a process acts by itself, or a caller looks at it
abbrev pub asks_of_one : Look → Said → Option (Name × Command)
asks_of_one look (says.Demonitor owner reference) = Some (owner.node, Command.Demonitor owner reference)
asks_of_one look (says.Trap process on) = Some (process.node, Command.Trap process on)
asks_of_one look (says.Die process term) = Some (process.node, Command.ExitSelf process (read look term))
asks_of_one look (says.Receive process) = Some (process.node, Command.Receive process)
asks_of_one look (says.Links process) = Some (process.node, Command.LinksOf process)
asks_of_one look (says.Alive process) = Some (process.node, Command.IsAlive process)
asks_of_one look _ = None

-- a process takes a registered name, gives it up, sends to one or monitors one, or a caller asks for the process that has a name
abbrev pub asks_of_names : Look → Said → Option (Name × Command)
asks_of_names look (says.Register process name) = Some (process.node, Command.Register process (read_atom look name))
asks_of_names look (says.Unregister process) = Some (process.node, Command.Unregister process)
asks_of_names look (says.WhereIs node name) = Some (node, Command.WhereIs (read_atom look name))
asks_of_names look (says.SendName from node name term) =
    Some (from.node, Command.SendName from node (read_atom look name) (read look term))
asks_of_names look (says.MonitorName owner node registered name) =
    Some (owner.node, Command.MonitorName owner node (read_atom look registered))
asks_of_names look _ = None

abbrev pub asks : Look → Said → Option (Name × Command)
asks look said = option_or (asks_of_two look said) (option_or (asks_of_one look said) (asks_of_names look said))

-- ---- the effects of the other lines

-- a pair prints nothing
abbrev pub pairs : Stage → Scene
pairs it = record { stage = pair_stage it; text = []; made = Made.Pair }

abbrev pub holds : (p q : Pid) → Stage → Scene
holds p q it = stage.says (ends_text (end_between it.world p q) (end_between it.world q p)) it

-- the monitors of a process, which has to be living at a node that is up
abbrev pub monitored_at : Option Node → Pid → Stage → Scene
monitored_at None p it = refuses Refusal.NothingThere it
monitored_at (Some node) p it =
    if not node.up then refuses Refusal.NodeDown it
    else if living node p then stage.says (monitors_text node p) it
    else refuses Refusal.NoSuchProcess it

abbrev pub monitored : Pid → Stage → Scene
monitored p it = monitored_at (node_of it.world.nodes p.node) p it

abbrev pub shows : (all : Bool) → Stage → Scene
shows false it = stage.says (shown_world it.world) it
shows true it = stage.says (whole_world it.world) it

abbrev pub moves : Said → Stage → Scene
moves (says.Node name cookie profile) it = joins name cookie profile it
moves says.Pair it = pairs it
moves (says.Spawn node name) it = happens (Call node Command.Spawn) it
moves (says.Ends p q) it = holds p q it
moves (says.Dial node peer) it = happens (Dial node peer it.word) it
moves (says.Route node peer) it = routes node peer it
moves (says.Monitors process) it = monitored process it
moves (says.Travels node peer) it = travels node peer it
moves (says.Why node peer) it = explains node peer it
moves (says.Lose node peer trunk) it = loses_by trunk node peer it
moves (says.Cut node peer) it = cuts node peer it
moves (says.Stop node) it = happens (Stop node) it
moves (says.Start node) it = happens (Start node) it
moves (says.Deliver node peer trunk) it = delivers_by trunk node peer it
moves (says.Local node) it = happens (Local node) it
moves (says.Sweep node) it = happens (Sweep node) it
moves says.Settle it = settles 1000000 it
moves (says.Challenge number) it = stage.says done_text (record it { word = number })
moves (says.Show all) it = shows all it
moves _ it = stage.says [] it

abbrev pub plays_as : Option (Name × Command) → Said → Stage → Scene
plays_as None said it = moves said it
plays_as (Some asked) said it = happens (Call asked.0 asked.1) it

abbrev pub plays : Look → Said → Stage → Scene
plays look said it = plays_as (asks look said) said it

-- ---- the names that a line binds

-- the name that a line gives
abbrev pub new_name : Said → List ℕ
new_name (says.Spawn node name) = name
new_name (says.Monitor owner target name) = name
new_name (says.MonitorName owner node registered name) = name
new_name _ = []

abbrev pub binds : (name : List ℕ) → Made → Look → Look
binds name Made.Nothing look = look
binds name (Made.One named) look = with_name look name named
binds name Made.Pair look = pair_names look

abbrev pub starts : Said → Bool
starts (says.Node name cookie profile) = false
starts _ = true

-- ---- a line

-- the state after a line, and its output
pub record Step : Type 0 where
  pub state : State
  pub text : List ℕ

abbrev pub does : Said → State → Step
does said state = let scene = plays state.names said state.stage in record {
  state = record {
    stage = scene.stage;
    names = binds (new_name said) scene.made state.names;
    reply = reply_after scene.text state.reply;
    started = starts said;
  };
  text = scene.text;
}

-- nothing happens, and nothing is printed
abbrev pub stays : State → Step
stays state = record { state = state; text = [] }

-- words that are expected are the last reply, or their line is a bad one. Any other line goes its way
abbrev pub expects : Option (List ℕ) → State → Result Step Reason → Result Step Reason
expects None state does = does
expects (Some words) state does = if is_met state.names state.reply words then Ok (stays state) else Err Reason.Unmet

-- a line for a node of a name that another has is a bad line too
abbrev pub is_taken : Said → List Name → Bool
is_taken (says.Node name cookie profile) names = has_name name names
is_taken _ names = false

abbrev pub says_does : State → Result (Option Said) Reason → Result Step Reason
says_does state (Ok None) = Ok (stays state)
says_does state (Ok (Some said)) =
    expects (expected said) state (if is_taken said state.stage.world.names then Err Reason.NameTaken else Ok (does said state))
says_does state (Err reason) = Err reason

-- the lines for nodes come first, and are at most 64. The line for a pair is the first of all
abbrev pub may_come : State → MayCome
may_come state = record {
  pair = not state.started && length state.stage.world.names == 0;
  node = not state.started && nat_lt (length state.stage.world.names) 64;
}

abbrev pub line_does : State → List ℕ → Result Step Reason
line_does state line = says_does state (line_says (may_come state) state.names line)
