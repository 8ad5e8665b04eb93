-- A run as a trace: each event with its report and the world before it. A trace tells by which introduction the owner's node knew the
-- target's node when a monitor was called for, and which process had a name when MONITOR_P came to it.
-- (ERTS User's Guide, Distribution Protocol, Distribution Handshake, on creations; Reference Manual, Processes, Monitors.)
use Rattle.std.specs.Prelude.{◌≡◌, ◌⊎◌, Bool, true, Option, None, Some, if◌then◌else◌, List, [], ◌∷◌, Contains}
use Rattle.std.specs.FinMap as fm
use Rattle.dist_model.specs.Introductions.{goes_on, introduced}
use Rattle.dist_model.specs.Downs.{IsCallOf, is_answered}
use Rattle.dist_model.specs.Histories.{Happening, History}
use Rattle.dist_model.specs.Items.{Item, Signalled}
use Rattle.dist_model.specs.declared.report.Answer.{Answer}
use Rattle.dist_model.specs.declared.report.Kind.{Kind}
use Rattle.dist_model.specs.Names.{Name, same_name}
use Rattle.dist_model.specs.Node.{Node, route}
use Rattle.dist_model.specs.Runs.{Runs, opening}
use Rattle.dist_model.specs.Seen.{HasSide, is_living, local_list, seen}
use Rattle.dist_model.specs.Sides.{TrunkSide}
use Rattle.dist_model.specs.Telling.{monitor_signal}
use Rattle.dist_model.specs.World.{Arrive, Event, Local, Refused, Report, Reported, World}
use Rattle.dist_model.specs.World.{first_of, list_to, node_name, node_of, step}
use Rattle.erl_names.specs.declared.trunk.TrunkId.{TrunkId}
use Rattle.erl_handshake.specs.declared.introduction.Introduction.{Introduction}
use Rattle.erl_handshake.specs.declared.setup.Setup.{Setup}
use Rattle.erl_term.specs.declared.term.Pid.{Pid}
use Rattle.erl_term.specs.declared.term.Reference.{Reference}
use Rattle.dist_model.specs.Handshake.{introduces}
use Rattle.monitor_core.specs.Monitors.{target_node}
use Rattle.monitor_core.specs.declared.monitor.Target.{Target}

pub record Moment : Type 0 where
  pub before : World
  pub happening : Happening

-- the latest first
abbrev pub Trace : Type 0
Trace = List Moment

-- its events and reports
abbrev pub history_of : Trace → History
history_of [] = []
history_of (last ∷ before) = last.happening ∷ history_of before

-- the world that an event with this report leads to
abbrev pub led_to : World → Event → Report → World
led_to world event (Refused why) = world
led_to world event (Reported answer effects) = (step world event).world

abbrev pub moment_of : World → Event → Report → Moment
moment_of world event report = record { before = world; happening = record { event = event; report = report } }

abbrev pub traced : World → List Event → List Report → Trace → Trace
traced world [] reports before = before
traced world (event ∷ events) [] before = before
traced world (event ∷ events) (report ∷ reports) before =
    traced (led_to world event report) events reports (moment_of world event report ∷ before)

-- over every run, and so at each moment of every run
abbrev pub ThroughoutTraced : (Trace → World → Type 0) → Type 0
ThroughoutTraced Holds = (nodes : List (Name × Setup)) (events : List Event) (reports : List Report) (world : World)
    → Runs (opening nodes) events reports world → Holds (traced (opening nodes) events reports []) world

-- the introduction in which a node knows another: its own, or the one that the peer told on the trunk that is up
abbrev pub side_said : Option TrunkSide → Option Introduction
side_said None = None
side_said (Some side) = Some side.introduction

abbrev pub said_on : Node → Option TrunkId → Option Introduction
said_on node None = None
said_on node (Some trunk) = side_said (fm.get node.sides trunk)

abbrev pub introduction_known : Option Node → Name → Option Introduction
introduction_known None peer = None
introduction_known (Some node) peer = if same_name peer node.mint.name then Some (introduces node) else said_on node (route node peer)

-- a call by which p monitors the target was answered with r in this moment, while p's node knew the target's node by this introduction
pub record CalledIn (r : Reference) (p : Pid) (target : Target) (said : Introduction) (moment : Moment) : Type 0 where
  pub call : IsCallOf p target moment.happening.event
  pub answered : is_answered r moment.happening.event moment.happening.report ≡ true
  pub known : introduction_known (node_of moment.before.nodes p.node) (target_node target) ≡ Some said

abbrev pub WasCalledIn : Reference → Pid → Target → Introduction → Trace → Type 0
WasCalledIn r p target said [] = ⊥
WasCalledIn r p target said (last ∷ before) = CalledIn r p target said last ⊎ WasCalledIn r p target said before

-- a name in a MONITOR_P that comes to a node is one of that node
abbrev pub IsNameAt : Name → Target → Type 0
IsNameAt at (Target.Pid q) = Unit {0}
IsNameAt at (Target.Name name node) = node ≡ at

-- a MONITOR_P is in flight to a node whose side of the trunk is not gone. When its owner called for the monitor, the owner's node knew
-- that node by the introduction that it has. So the target is of the incarnation that the caller's node knew
abbrev pub MonitorsKnowTheirNode : Trace → World → Type 0
MonitorsKnowTheirNode trace world = (t : TrunkId) (y : Name) (p : Pid) (target : Target) (r : Reference) (payload : Bool) → IsNameAt y target
    → Contains (list_to world.lists t y) (Signalled (monitor_signal p target r) payload) → HasSide world y t p.node goes_on
    → (said : Introduction) × (introduced world y ≡ Some said) × (y ≡ target_node target) × WasCalledIn r p target said trace

-- the same for a MONITOR_P within one node
abbrev pub MonitorsKnowTheirOwnNode : Trace → World → Type 0
MonitorsKnowTheirOwnNode trace world = (x : Name) (p : Pid) (target : Target) (r : Reference) (payload : Bool) → IsNameAt x target
    → Contains (local_list world x) (Signalled (monitor_signal p target r) payload)
    → (said : Introduction) × (introduced world x ≡ Some said) × (x ≡ target_node target) × WasCalledIn r p target said trace

-- ---- the delivery of MONITOR_P

-- the first item in flight, which the event delivers
abbrev pub comes_first : World → Event → Option Item
comes_first world (Arrive trunk name word) = first_of (list_to world.lists trunk name)
comes_first world (Local name) = first_of (local_list world name)
comes_first world _ = None

abbrev pub answer_of : Report → Option Answer
answer_of (Refused why) = None
answer_of (Reported answer effects) = Some answer

-- the event delivered p's MONITOR_P of the target under r
pub record Taken (r : Reference) (p : Pid) (target : Target) (moment : Moment) : Type 0 where
  pub payload : Bool
  pub first : comes_first moment.before moment.happening.event ≡ Some (Signalled (monitor_signal p target r) payload)
  pub at : IsNameAt (node_name moment.happening.event) target
  pub took : answer_of moment.happening.report ≡ Some (Answer.Took Kind.Monitor)

-- at each delivery the target's node had the introduction by which the owner's node knew it at the call. Each process alive there has
-- its creation
abbrev pub TakenAsCalled : Trace → Type 0
TakenAsCalled [] = Unit {0}
TakenAsCalled (last ∷ before) = ((p : Pid) (target : Target) (r : Reference) → Taken r p target last
    → (said : Introduction) × (introduced last.before (target_node target) ≡ Some said) × (node_name last.happening.event ≡ target_node target)
    × WasCalledIn r p target said before
    × ((held : Pid) → held.node ≡ target_node target → is_living last.before held ≡ true → held.creation ≡ said.creation))
    × TakenAsCalled before

abbrev pub MonitorsAreTakenAsCalled : Trace → World → Type 0
MonitorsAreTakenAsCalled trace world = TakenAsCalled trace

-- a MONITOR_P of r was delivered
abbrev pub HasCome : Reference → Trace → Type 0
HasCome r [] = ⊥
HasCome r (last ∷ before) = ((p : Pid) × (target : Target) × Taken r p target last) ⊎ HasCome r before

-- at most one MONITOR_P of a reference is ever delivered
abbrev pub ComesOnce : Trace → Type 0
ComesOnce [] = Unit {0}
ComesOnce (last ∷ before) =
    ((p : Pid) (target : Target) (r : Reference) → Taken r p target last → HasCome r before → ⊥) × ComesOnce before

abbrev pub MonitorsComeOnce : Trace → World → Type 0
MonitorsComeOnce trace world = ComesOnce trace

-- ---- the process that a monitor by name is bound to

-- the process that has the name at the node
abbrev pub holder_at : World → (node name : Name) → Option Pid
holder_at world node name = seen (node_of world.nodes node) None (λ it. fm.get it.names name)

-- p's MONITOR_P of the name under r came to the node when this process had the name there, or none
abbrev pub WasTaken : Reference → Pid → (name node : Name) → Option Pid → Trace → Type 0
WasTaken r p name node holder [] = ⊥
WasTaken r p name node holder (last ∷ before) =
    (Taken r p (Target.Name name node) last × (holder_at last.before node name ≡ holder)) ⊎ WasTaken r p name node holder before
