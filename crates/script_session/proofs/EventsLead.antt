-- Some events lead to the world after each line.
use Rattle.std.proofs.Common.{◌≡◌, ℕ, zero, suc, Bool, true, false, cond, not, List, [], ◌∷◌, ◌++◌, Option}
use Rattle.std.proofs.Common.{None, Some, Result, Ok, Err, IfOk, refl, sym, ap, subst, ◌∙◌, inl}
use Rattle.std.proofs.lemmas.List.{map-append}
use Rattle.std.specs.FinMap as fm
use Rattle.dist_model.specs.Names.{Name}
use Rattle.dist_model.specs.Node.{Node, living, route}
use Rattle.dist_model.specs.Runs.{new_node, opening}
use Rattle.dist_model.specs.World.{Arrive, Call, Dial, Event, Local, Lose, Start, Stop, Sweep, World, node_of, step}
use Rattle.dist_model.specs.declared.command.Command.{Command}
use Rattle.erl_names.specs.declared.trunk.TrunkId.{TrunkId}
use Rattle.erl_term.specs.declared.refusal.Refusal.{Refusal}
use Rattle.script_lines.specs.Lines.{line_says}
use Rattle.script_lines.specs.Replies.{expected, is_met}
use Rattle.script_lines.specs.Said.{Said}
use Rattle.script_lines.specs.Said as says
use Rattle.script_lines.specs.declared.reason.Reason.{Reason}
use Rattle.run_traces.specs.Traces.{louder}
use Rattle.script_session.specs.Connections as connections
use Rattle.script_session.specs.Connections.{arrives, coming_to, leading, lose, lose_all, loses_at}
use Rattle.script_session.specs.Connections.{lose_at, lose_live, lose_on, live_sides, is_any}
use Rattle.script_session.specs.Pairs.{pair_nodes, pair_plays, pair_stage}
use Rattle.script_session.specs.Session.{State, asks, does, expects, is_taken, joined, line_does}
use Rattle.script_session.specs.Session.{may_come, monitored_at, moves, shows, plays, plays_as, says_does, starts, stays}
use Rattle.script_session.specs.Stage as stage
use Rattle.script_session.specs.Stage.{Scene, Stage, after, play}
use Rattle.script_session.specs.Stands.{IsLed, IsOpening}
use Rattle.script_session.specs.Turns.{settles, takes_turn, turn}
use Rattle.script_session.specs.declared.connections.Live.{Live}
use Rattle.script_session.proofs.NodesFirst.{node_comes_early}
use Rattle.script_terms.specs.Binding.{Look}
use Rattle.node_texts.specs.Monitors.{monitors_text}
use Rattle.script_texts.specs.Texts.{route_text}
use Rattle.world_texts.specs.Travelling.{travelling, travels_text}
use Rattle.erl_term.specs.declared.term.Pid.{Pid}
use Rattle.world_core.proofs.Reached.{reached_next}
use Rattle.world_core.specs.Stands.{IsReached}
use Rattle.erl_handshake.specs.declared.profile.Profile.{Profile}
use Rattle.script_session.specs.Pairs.{setup_of}
use Rattle.erl_handshake.specs.declared.setup.Setup.{Setup}

-- of a stage
abbrev Led : Stage → Type 0
Led it = IsReached it.world

pub after_led : (it : Stage) (event : Event) → Led it → Led (after it event)
after_led it event h = reached_next it.world (step it.world event).world event (step it.world event).report h (inl (refl, refl))

pub play_led : (events : List (ℕ → Event)) (it : Stage) → Led it → Led (play events it)
unfolding play
play_led [] it h = h
play_led (event ∷ rest) it h = play_led rest (after it (event it.word)) (after_led it (event it.word) h)

opening_led : (world : World) → IsOpening world → IsReached world
opening_led world o = record { nodes = o.0; events = []; reports = []; runs = o.1 }

pair_led : (it : Stage) → Led (pair_stage it)
pair_led it =
    play_led pair_plays (record it { world = opening pair_nodes; trace = louder it.trace })
    (opening_led (opening pair_nodes) (pair_nodes, refl))

-- ---- turns

turn_led : (next : Option Event) (it : Stage) (rest : Stage → Scene) → Led it
    → ((now : Stage) → Led now → Led (rest now).stage) → Led (takes_turn next it rest).stage
turn_led None it rest h k = h
turn_led (Some event) it rest h k = k (after it event) (after_led it event h)

settles_led : (most : ℕ) (it : Stage) → Led it → Led (settles most it).stage
unfolding settles
settles_led zero it h = h
settles_led (suc most) it h = turn_led (turn it) it (settles most) h (λ now k. settles_led most now k)

-- ---- connections

pick : (b : Bool) (x y : Stage) → Led x → Led y → Led (cond b x y)
pick true x y h k = h
pick false x y h k = k

arrives_led : (coming : Result TrunkId Refusal) (name : Name) (it : Stage) → Led it → Led (arrives coming name it).stage
arrives_led (Ok trunk) name it h = after_led it (Arrive trunk name it.word) h
arrives_led (Err why) name it h = h

lost_led : (leading : Result TrunkId Refusal) (name : Name) (it : Stage) → Led it → Led (loses_at leading name it).stage
lost_led (Ok trunk) name it h = after_led it (Lose trunk name) h
lost_led (Err why) name it h = h

-- a look at a connection is no event
explained_led : (o : Option Node) (name peer : Name) (it : Stage) → Led it → Led (connections.explains_at o name peer it).stage
explained_led None name peer it h = h
explained_led (Some node) name peer it h = h

shown_led : (b : Bool) (x y : Scene) (it : Stage) → x.stage ≡ it → y.stage ≡ it → Led it → Led (cond b x y).stage
shown_led true x y it e f h = subst Led (sym e) h
shown_led false x y it e f h = subst Led (sym f) h

route_led : (o : Option Node) (peer : Name) (it : Stage) → Led it → Led (connections.route_at o peer it).stage
route_led None peer it h = h
route_led (Some node) peer it h =
    shown_led node.up (stage.says (route_text (route node peer)) it) (connections.refuses Refusal.NodeDown it) it refl refl h

travels_led : (o : Option Node) (peer : Name) (it : Stage) → Led it → Led (connections.travels_at o peer it).stage
travels_led None peer it h = h
travels_led (Some node) peer it h =
    shown_led node.up (stage.says (travels_text (travelling it.world node peer)) it) (connections.refuses Refusal.NodeDown it) it refl refl h

monitors_led : (o : Option Node) (p : Pid) (it : Stage) → Led it → Led (monitored_at o p it).stage
monitors_led None p it h = h
monitors_led (Some node) p it h = go (not node.up) (living node p)
  where
    go : (down lives : Bool)
        → Led (cond down (connections.refuses Refusal.NodeDown it)
        (cond lives (stage.says (monitors_text node p) it) (connections.refuses Refusal.NoSuchProcess it))).stage
    go true lives = h
    go false true = h
    go false false = h

show_led : (all : Bool) (it : Stage) → Led it → Led (shows all it).stage
show_led true it h = h
show_led false it h = h

on_led : (name : Name) (trunk : Option TrunkId) (it : Stage) → Led it → Led (lose_on name trunk it)
on_led name None it h = h
on_led name (Some trunk) it h = after_led it (Lose trunk name) h

all_led : (name : Name) (live : Live) (it : Stage) → Led it → Led (lose_all name live it)
all_led name live it h =
    let first = lose_on name live.first it in
    let second = lose_on name live.second first in
    on_led name live.third second (on_led name live.second first (on_led name live.first it h))

live_led : (name : Name) (live : Live) (it : Stage) → Led it → Led (lose_live name live it).stage
live_led name live it h = go (is_any live)
  where
    go : (b : Bool) → Led (cond b (record { stage = lose_all name live it; refusal = None }) (connections.unlost Refusal.NotLive it)).stage
    go true = all_led name live it h
    go false = h

pub lose_led : (node peer : Name) (it : Stage) → Led it → Led (lose node peer it).stage
lose_led node peer it h = go (node_of it.world.nodes node)
  where
    go : (o : Option Node) → Led (lose_at o node peer it).stage
    go None = h
    go (Some n) = up n.up
      where
        up : (b : Bool) → Led (cond b (lose_live node (live_sides n peer) it) (connections.unlost Refusal.NodeDown it)).stage
        up true = live_led node (live_sides n peer) it h
        up false = h

-- ---- lines

pub joined_opens : (world : World) (name cookie : List ℕ) (profile : Profile) → IsOpening world
    → IsOpening (joined world name cookie profile)
joined_opens world name cookie profile o = (
  o.0 ++ (name, setup_of cookie profile) ∷ [],
  ap (λ w. joined w name cookie profile) o.1
      ∙ (λ i. record {
        names = sym (map-append (λ (n : Name × Setup). n.0) o.0 ((name, setup_of cookie profile) ∷ [])) i;
        nodes = sym (map-append (λ (n : Name × Setup). new_node n.0 n.1) o.0 ((name, setup_of cookie profile) ∷ [])) i;
        lists = fm.empty;
      }),
)

moves_led : (said : Said) (it : Stage) → Led it → (starts said ≡ false → IsOpening it.world) → Led (moves said it).stage
moves_led (says.Node name cookie profile) it h o = opening_led _ (joined_opens it.world name cookie profile (o refl))
moves_led says.Pair it h o = pair_led it
moves_led (says.Spawn node name) it h o = after_led it (Call node Command.Spawn) h
moves_led (says.Dial node peer) it h o = after_led it (Dial node peer it.word) h
moves_led (says.Route node peer) it h o = route_led (node_of it.world.nodes node) peer it h
moves_led (says.Monitors process) it h o = monitors_led (node_of it.world.nodes process.node) process it h
moves_led (says.Travels node peer) it h o = travels_led (node_of it.world.nodes node) peer it h
moves_led (says.Why node peer) it h o = explained_led (node_of it.world.nodes node) node peer it h
moves_led (says.Lose node peer None) it h o = lose_led node peer it h
moves_led (says.Lose node peer (Some trunk)) it h o =
    lost_led (leading it.world node peer trunk Refusal.NotLive) node it h
moves_led (says.Cut node peer) it h o = lose_led peer node (lose node peer it).stage (lose_led node peer it h)
moves_led (says.Stop node) it h o = after_led it (Stop node) h
moves_led (says.Start node) it h o = after_led it (Start node) h
moves_led (says.Deliver node peer None) it h o = arrives_led (coming_to it.world node peer) node it h
moves_led (says.Deliver node peer (Some trunk)) it h o =
    arrives_led (leading it.world node peer trunk Refusal.NothingThere) node it h
moves_led (says.Local node) it h o = after_led it (Local node) h
moves_led (says.Sweep node) it h o = after_led it (Sweep node) h
moves_led (says.Show all) it h o = show_led all it h
moves_led says.Settle it h o = settles_led 1000000 it h
moves_led said it h o = h

plays_led : (look : Look) (said : Said) (it : Stage) → Led it → (starts said ≡ false → IsOpening it.world) → Led (plays look said it).stage
plays_led look said it h o = go (asks look said)
  where
    go : (asked : Option (Name × Command)) → Led (plays_as asked said it).stage
    go None = moves_led said it h o
    go (Some asked) = after_led it (Call asked.0 asked.1) h

-- a line for a node leaves an opening world
pub plays_opens : (look : Look) (said : Said) (it : Stage) → starts said ≡ false → IsOpening it.world
    → IsOpening (plays look said it).stage.world
plays_opens look (says.Node name cookie profile) it s o = joined_opens it.world name cookie profile o
plays_opens look said it s o = cc

does_led : (said : Said) (state : State) → IsLed state → (starts said ≡ false → state.started ≡ false) → IsLed (does said state).state
does_led said state h early = record {
  reached = plays_led state.names said state.stage h.reached (λ s. h.opening (early s));
  opening = λ s. plays_opens state.names said state.stage s (h.opening (early s));
}

pub line_led : (state : State) (line : List ℕ) → IsLed state → IfOk (line_does state line) (λ step. IsLed step.state)
line_led state line h = go (line_says (may_come state) state.names line) refl
  where
    go : (r : Result (Option Said) Reason) → line_says (may_come state) state.names line ≡ r
        → IfOk (says_does state r) (λ step. IsLed step.state)
    go (Ok None) e = h
    go (Err reason) e = tt
    go (Ok (Some said)) e = either (expected said)
      where
        free : (b : Bool) → IfOk (cond b (Err Reason.NameTaken) (Ok (does said state))) (λ step. IsLed step.state)
        free true = tt
        free false = does_led said state h (node_comes_early state line said e)

        met : (b : Bool) → IfOk (cond b (Ok (stays state)) (Err Reason.Unmet)) (λ step. IsLed step.state)
        met true = h
        met false = tt

        either : (words : Option (List ℕ))
            → IfOk (expects words state (cond (is_taken said state.stage.world.names) (Err Reason.NameTaken) (Ok (does said state)))) (λ step. IsLed step.state)
        either None = free (is_taken said state.stage.world.names)
        either (Some words) = met (is_met state.names state.reply words)
