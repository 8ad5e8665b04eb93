-- Claims about every world and all that happened before it: the exits of links, and the monitors.
use Rattle.std.specs.Prelude.{◌≡◌, ◌⊎◌, ◌≤◌, Bool, true, false, Option, None, Some, [], Contains, length}
use Rattle.std.specs.FinMap as fm
use Rattle.dist_model.specs.Causes.{CauseOf, Reacts, TrueCause}
use Rattle.dist_model.specs.declared.command.Command.{Command}
use Rattle.dist_model.specs.Downs.{Demonitored, Down, Monitored, answers, downs, downs_by}
use Rattle.dist_model.specs.Histories.{History}
use Rattle.dist_model.specs.Items.{Signalled}
use Rattle.dist_model.specs.Names.{Name}
use Rattle.dist_model.specs.Node.{Node}
use Rattle.dist_model.specs.Quiet.{Quiet}
use Rattle.dist_model.specs.Seen.{end_between, is_living, is_reached, local_list}
use Rattle.dist_model.specs.Traces.{Trace}
use Rattle.dist_model.specs.World.{Call, Event, Report, World, list_to, node_of, step}
use Rattle.erl_control.specs.declared.signal.Signal.{Signal}
use Rattle.erl_names.specs.declared.trunk.TrunkId.{TrunkId}
use Rattle.erl_term.specs.Data.{Data}
use Rattle.erl_term.specs.declared.term.Pid.{Pid}
use Rattle.erl_term.specs.declared.term.Reference.{Reference}
use Rattle.link_core.specs.declared.end.End.{End}
use Rattle.dist_model.specs.Monitoring.{registration_of}
use Rattle.monitor_core.specs.declared.monitor.Registration.{Registration}
use Rattle.monitor_core.specs.declared.monitor.Target.{Target}

-- ---- Reactions. (Reference Manual, Processes, Links and Receiving Exit Signals)

-- where a report says that a process reacts to the exit of a link, it held it active before the event, or it links in this very
-- event towards a node that isn't reached; and the reason is true
abbrev pub ReactsRightly : History → World → Event → Report → Type 0
ReactsRightly history world event report = (p q : Pid) (reason : Data) → Reacts p q reason report
    → ((end_between world p q ≡ End.Active) ⊎ ((event ≡ Call p.node (Command.Link p q)) × (is_reached world p q.node ≡ false)))
    × TrueCause history world p q reason

-- so with whatever comes next
abbrev pub ReactsForTrueCause : History → World → Type 0
ReactsForTrueCause history world = (event : Event) → ReactsRightly history world event ((step world event).report)

-- an EXIT that travels tells a true reason
abbrev pub ExitsTellTrueCause : History → World → Type 0
ExitsTellTrueCause history world = (trunk : TrunkId) (name : Name) (p q : Pid) (reason : Data) (payload : Bool)
    → Contains (list_to world.lists trunk name) (Signalled (Signal.Exit q p reason) payload) → TrueCause history world p q reason

abbrev pub ExitsTellTrueCauseWithin : History → World → Type 0
ExitsTellTrueCauseWithin history world = (name : Name) (p q : Pid) (reason : Data) (payload : Bool)
    → Contains (local_list world name) (Signalled (Signal.Exit q p reason) payload) → TrueCause history world p q reason

-- ---- Monitors. (Reference Manual, Processes, Monitors)

-- a reference is the answer of at most one Monitor or MonitorName call
abbrev pub AnsweredOnce : History → World → Type 0
AnsweredOnce history world = (r : Reference) → answers r history ≤ 1

-- and at most one DOWN comes of it
abbrev pub DownOnce : History → World → Type 0
DownOnce history world = (r : Reference) → length (downs r history) ≤ 1

-- to the process that made the call, for the target that it named: a pid whole, and so the incarnation, or a name and its node
abbrev pub DownToTheOwner : History → World → Type 0
DownToTheOwner history world = (r : Reference) (down : Down) → Contains (downs r history) down
    → Monitored r down.owner down.target history

-- where a Demonitor went through there was no DOWN, and there is none
abbrev pub NoDownWhereDemonitored : History → World → Type 0
NoDownWhereDemonitored history world = (r : Reference) → Demonitored r history → downs r history ≡ []

-- the info of each DOWN that a report tells is true
abbrev pub DownsRightly : Trace → World → Event → Report → Type 0
DownsRightly trace world event report = (r : Reference) (down : Down) → Contains (downs_by r event report) down
    → CauseOf trace world r down.owner down.target down.info

-- so with whatever comes next
abbrev pub DownsTellTrueCause : Trace → World → Type 0
DownsTellTrueCause trace world = (event : Event) → DownsRightly trace world event ((step world event).report)

abbrev pub registered_at : Option Node → Reference → Option Registration
registered_at None r = None
registered_at (Some node) r = fm.get node.registered r

-- q is living, and its node holds p's monitor of it under the reference
abbrev pub IsRegistered : World → Reference → Pid → Pid → Type 0
IsRegistered world r p q = (is_living world q ≡ true) × (registered_at (node_of world.nodes q.node) r ≡ Some (registration_of p q))

-- whenever nothing travels between them, a living owner that didn't take its monitor back has got its DOWN, or the target is living
-- and registered
abbrev pub DownOrRegistered : History → World → Type 0
DownOrRegistered history world = (r : Reference) (p q : Pid) → Monitored r p (Target.Pid q) history → is_living world p ≡ true
    → (Demonitored r history → ⊥) → Quiet world p q
    → (length (downs r history) ≡ 1) ⊎ IsRegistered world r p q
