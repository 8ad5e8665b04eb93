-- Claims about every world that a run leads to.
use Rattle.std.specs.Prelude.{if◌then◌else◌, List, [], ◌∷◌, ◌++◌, ◌≡◌, ◌≤◌, ◌⊎◌, ◌↔◌, None, Some, ℕ, Bool, true, false, Contains}
use Rattle.std.specs.Ordering.{eq_by_cmp}
use Rattle.std.specs.FinMap as fm
use Rattle.dist_model.specs.Items.{Item, Signalled, news}
use Rattle.dist_model.specs.Names.{Name, place_cmp}
use Rattle.dist_model.specs.Naming.{IsOneToOne}
use Rattle.dist_model.specs.NodeEvents.{at_node}
use Rattle.dist_model.specs.Arrivals.{is_good}
use Rattle.dist_model.specs.Commands.{Accepts, Refuses}
use Rattle.dist_model.specs.Introductions.{goes_on, introduced, knows_peer, told_by}
use Rattle.dist_model.specs.Work.{Work}
use Rattle.dist_model.specs.declared.report.Answer.{Answer}
use Rattle.dist_model.specs.declared.report.Effect.{Effect}
use Rattle.erl_term.specs.declared.refusal.Refusal.{Refusal}
use Rattle.dist_model.specs.Node.{Node, has_payload, living, is_stranger, Ended}
use Rattle.dist_model.specs.Quiet.{Quiet}
use Rattle.dist_model.specs.Runs.{Runs}
use Rattle.dist_model.specs.Seen.{AreConnected, HasSide, end_between, is_connected, is_living, local_list}
use Rattle.dist_model.specs.Sides.{is_losing, is_up}
use Rattle.dist_model.specs.World.{Arrive, Event, Refused, Report, Reported, Stepped, World}
use Rattle.dist_model.specs.World.{list_to, met, node_name, node_of, refused, step, Local, Start}
use Rattle.erl_control.specs.Control.{IsSendable}
use Rattle.erl_control.specs.Ends.{sender_of}
use Rattle.erl_control.specs.declared.signal.Signal.{Signal}
use Rattle.erl_handshake.specs.declared.introduction.Introduction.{Introduction}
use Rattle.erl_names.specs.declared.trunk.TrunkId.{TrunkId}
use Rattle.erl_term.specs.Data.{Data}
use Rattle.erl_term.specs.declared.term.Pid.{Pid}
use Rattle.link_core.specs.News.{Signals, drained, last_said}
use Rattle.link_core.specs.declared.end.End.{End}
use Rattle.link_core.specs.declared.end.LinkSignal.{LinkSignal}

-- ---- Agreement. (Reference Manual, Processes, Links: a link is of both; ERTS User's Guide, Distribution Protocol, New Link Protocol)

-- two living processes of connected nodes: once everything in flight is delivered, both hold their link active, or neither does
abbrev pub Agreement : World → Type 0
Agreement w = (p q : Pid) (t : TrunkId) → AreConnected w p.node t q.node → is_living w p ≡ true → is_living w q ≡ true
    → drained (end_between w p q) (news q p (list_to w.lists t p.node)) ≡ End.Active
    ↔ drained (end_between w q p) (news p q (list_to w.lists t q.node)) ≡ End.Active

-- two living processes of one node
abbrev pub AgreementWithin : World → Type 0
AgreementWithin w = (p q : Pid) → p.node ≡ q.node → is_living w p ≡ true → is_living w q ≡ true
    → drained (end_between w p q) (news q p (local_list w p.node)) ≡ End.Active
    ↔ drained (end_between w q p) (news p q (local_list w p.node)) ≡ End.Active

-- while nothing is in flight between two living processes, both hold their link active, or neither does
abbrev pub AgreementInQuiet : World → Type 0
AgreementInQuiet w = (p q : Pid) → Quiet w p q → is_living w p ≡ true → is_living w q ≡ true
    → end_between w p q ≡ End.Active ↔ end_between w q p ≡ End.Active

-- ---- Pending. (ERTS User's Guide, Distribution Protocol, New Link Protocol)

-- the UNLINK_ID of a pending end is the last LINK or UNLINK_ID in flight to the partner, or the acknowledgement is in flight back
abbrev pub PendingOnItsWay : World → Type 0
PendingOnItsWay w = (p q : Pid) (t : TrunkId) (i : ℕ) → AreConnected w p.node t q.node → is_living w p ≡ true → is_living w q ≡ true
    → end_between w p q ≡ End.Pending i
    → (last_said (news p q (list_to w.lists t q.node)) ≡ Some (LinkSignal.Unlink i))
    ⊎ Contains (news q p (list_to w.lists t p.node)) (Signals (LinkSignal.Ack i))

abbrev pub PendingWithin : World → Type 0
PendingWithin w = (p q : Pid) (i : ℕ) → p.node ≡ q.node → is_living w p ≡ true → is_living w q ≡ true
    → end_between w p q ≡ End.Pending i
    → (last_said (news p q (local_list w p.node)) ≡ Some (LinkSignal.Unlink i))
    ⊎ Contains (news q p (local_list w p.node)) (Signals (LinkSignal.Ack i))

-- ---- No link to the dead, and none to itself. (Reference Manual, Processes, Links)

abbrev pub NoLinkToTheDead : World → Type 0
NoLinkToTheDead w = (p q : Pid) → Quiet w p q → is_living w p ≡ true → is_living w q ≡ false
    → end_between w p q ≡ End.Active → ⊥

abbrev pub NoLinkToItself : World → Type 0
NoLinkToItself w = (p : Pid) → end_between w p p ≡ End.None

-- ---- Links are of living processes that can reach each other. (Reference Manual, Processes, Links; Distributed Erlang)

-- an end other than none belongs to a living process. Its partner is of the same node, or of one with a connection that is up or not
-- yet swept
abbrev pub LinkNeedsConnection : World → Type 0
LinkNeedsConnection w = (p q : Pid) → (end_between w p q ≡ End.None → ⊥)
    → (is_living w p ≡ true) × ((q.node ≡ p.node) ⊎ (is_connected w p.node q.node ≡ true))

-- ---- Who is living. (Reference Manual, Processes, Process Creation and Termination; ERTS User's Guide, External Term Format, NEW_PID_EXT)

-- the running incarnation spawned each living process
abbrev pub LivingMeans : World → Type 0
LivingMeans w = (name : Name) (node : Node) (p : Pid) → node_of w.nodes name ≡ Some node → living node p ≡ true
    → (node.up ≡ true) × (p.creation ≡ node.mint.creation) × (is_stranger node p ≡ false)

-- each process that it spawned is alive, or the node keeps its exit reason
abbrev pub SpawnedLivesOrEnded : World → Type 0
SpawnedLivesOrEnded w = (name : Name) (node : Node) (p : Pid) → node_of w.nodes name ≡ Some node
    → node.up ≡ true → p.creation ≡ node.mint.creation → is_stranger node p ≡ false
    → (living node p ≡ true) ⊎ ((reason : Data) × (fm.get node.lives p ≡ Some (Ended reason)))

-- each registered name is of a living process of its node, and no process has two
abbrev pub NamesAreOfTheLiving : World → Type 0
NamesAreOfTheLiving w = (x : Name) (node : Node) → node_of w.nodes x ≡ Some node
    → ((name : Name) (p : Pid) → fm.get node.names name ≡ Some p → living node p ≡ true) × IsOneToOne node.names

-- a node that is down keeps no processes, no names, no links and no monitors
abbrev pub DownHoldsNothing : World → Type 0
DownHoldsNothing w = (name : Name) (node : Node) → node_of w.nodes name ≡ Some node → node.up ≡ false
    → (node.lives ≡ fm.empty) × (node.names ≡ fm.empty) × (node.ends ≡ fm.empty) × (node.watches ≡ fm.empty) × (node.registered ≡ fm.empty)

-- ---- One trunk. (ERTS User's Guide, Distribution Protocol, Distribution Handshake: at most one connection between two nodes)

-- two nodes of which each has a side up towards the other have the sides of one trunk
abbrev pub OneTrunk : World → Type 0
OneTrunk w = (x y : Name) (t u : TrunkId) → HasSide w x t y is_up → HasSide w y u x is_up → t ≡ u

-- no node is connected to a peer while records of a lost connection to it are left
abbrev pub NoUpBesideLosing : World → Type 0
NoUpBesideLosing w = (x y : Name) (t u : TrunkId) → HasSide w x t y is_up → HasSide w x u y is_losing → ⊥

-- ---- Introductions. (ERTS User's Guide, Distribution Protocol, Distribution Handshake, send_name and send_challenge: each node
-- tells its own creation and flags)

-- while x's side of a trunk is not gone, each item in flight from x that introduces x has its current creation and its flags
abbrev pub IntroductionsAreTold : World → Type 0
IntroductionsAreTold w = (x y : Name) (t : TrunkId) (item : Item) (said : Introduction) → HasSide w x t y goes_on
    → Contains (list_to w.lists t y) item → told_by item ≡ Some said → introduced w x ≡ Some said

-- while x's side is not gone, the peer's side knows x's current creation and x's flags, or none
abbrev pub IntroductionsAreKnown : World → Type 0
IntroductionsAreKnown w = (x y : Name) (t : TrunkId) → HasSide w x t y goes_on → (theirs : HasSide w y t x knows_peer)
    → introduced w x ≡ Some theirs.side.introduction

-- two connected nodes know each other's creation and flags
abbrev pub ConnectedKnow : World → Type 0
ConnectedKnow w = (x y : Name) (t : TrunkId) → (both : AreConnected w x t y)
    → (introduced w y ≡ Some both.0.side.introduction) × (introduced w x ≡ Some both.1.side.introduction)

-- of two connected nodes both let reasons follow the control terms, or neither
abbrev pub PayloadIsAgreed : World → Type 0
PayloadIsAgreed w = (x y : Name) (t : TrunkId) (here there : Node) → AreConnected w x t y → node_of w.nodes x ≡ Some here
    → node_of w.nodes y ≡ Some there → has_payload here t ≡ has_payload there t

-- a side accepts no signal from a process of an incarnation that is still to come
abbrev pub NoneOfTheFuture : World → Type 0
NoneOfTheFuture w = (x y : Name) (t : TrunkId) (node : Node) (signal : Signal) (payload : Bool) (p : Pid) → (own : HasSide w x t y is_up)
    → HasSide w y t x goes_on → is_good node own.side (Signalled signal payload) ≡ true → sender_of signal ≡ Some p
    → (said : Introduction) × (introduced w y ≡ Some said) × (p.node ≡ y) × (p.creation ≤ said.creation)

-- the introduction that a side knows stays right in every later world while the peer's side of the trunk is not gone. So the receiver of
-- an item is of the incarnation that its sender knew when it sent the item
abbrev pub KnownForGood : World → Type 0
KnownForGood w = (events : List Event) (reports : List Report) (later : World) → Runs w events reports later
    → (x y : Name) (t : TrunkId) → (known : HasSide w x t y knows_peer) → HasSide later y t x goes_on
    → introduced later y ≡ Some known.side.introduction

-- ---- An event is of one node. (own: the threads of nodes rest on it)

-- the other nodes stay unchanged, and the node becomes the result of its own event
pub record IsOf (w : World) (e : Event) (s : Stepped) : Type 0 where
  pub names : s.world.names ≡ w.names
  pub others : (x : Name) → (x ≡ node_name e → ⊥) → node_of s.world.nodes x ≡ node_of w.nodes x
  pub nobody : node_of w.nodes (node_name e) ≡ None → s ≡ refused w Refusal.NothingThere
  pub refuses : (node : Node) (why : Refusal) → node_of w.nodes (node_name e) ≡ Some node
      → at_node w.names node (met w e) ≡ Refuses why → s ≡ refused w why
  pub accepts : (node : Node) (answer : Answer) (work : Work) → node_of w.nodes (node_name e) ≡ Some node
      → at_node w.names node (met w e) ≡ Accepts answer work
      → (s.report ≡ Reported answer work.effects) × (node_of s.world.nodes work.node.mint.name ≡ Some work.node)

abbrev pub EventIsLocal : World → Type 0
EventIsLocal w = (e : Event) → IsOf w e (step w e)

-- ---- Order. (Reference Manual, Processes, Delivery of Signals)

abbrev pub effects_of : Report → List (Effect Item)
effects_of (Refused why) = []
effects_of (Reported answer effects) = effects

-- the items that were sent on a trunk to a node
abbrev pub sent_to : TrunkId → Name → List (Effect Item) → List Item
sent_to t x [] = []
sent_to t x (Effect.Sent (Some u) y item ∷ rest) = (if eq_by_cmp place_cmp (t, x) (u, y) then item ∷ [] else []) ++ sent_to t x rest
sent_to t x (effect ∷ rest) = sent_to t x rest

-- the items in flight on a trunk to a node keep their order at any event. The event appends the items that its report says were sent,
-- and no others. It removes the first item only if it delivers that item to the node
abbrev pub KeepsOrder : World → Type 0
KeepsOrder w = (e : Event) (t : TrunkId) (x : Name) → let s = step w e in let sent = sent_to t x (effects_of s.report) in
    (list_to s.world.lists t x ≡ list_to w.lists t x ++ sent)
    ⊎ (((word : ℕ) × (e ≡ Arrive t x word)) × (first : Item) × (rest : List Item) × (list_to w.lists t x ≡ first ∷ rest)
    × (list_to s.world.lists t x ≡ rest ++ sent))

-- an event appends items to those in flight
abbrev pub Grows : List Item → List Item → Type 0
Grows old new = (more : List Item) × (new ≡ old ++ more)

-- an event removes the first one
abbrev pub LosesFirst : List Item → List Item → Type 0
LosesFirst old new = (first : Item) × (rest : List Item) × (old ≡ first ∷ rest) × Grows rest new

-- of the own list of x, before and after an event
abbrev pub OwnListKept : Event → Name → (old new : List Item) → Type 0
OwnListKept e x old new = Grows old new ⊎ (((e ≡ Local x) × LosesFirst old new) ⊎ ((e ≡ Start x) × (new ≡ [])))

-- the same for items from a node to itself. A node that restarts begins with none
abbrev pub KeepsOwnOrder : World → Type 0
KeepsOwnOrder w = (e : Event) (x : Name) → OwnListKept e x (local_list w x) (local_list ((step w e).world) x)

-- ---- Frames. (ERTS User's Guide, Distribution Protocol, Protocol between Connected Nodes)

-- erl_control can frame each signal in flight
abbrev pub EverySignalFits : World → Type 0
EverySignalFits w = (t : TrunkId) (x : Name) (signal : Signal) (payload : Bool) → Contains (list_to w.lists t x) (Signalled signal payload) → IsSendable signal

abbrev pub EverySignalFitsWithin : World → Type 0
EverySignalFitsWithin w = (x : Name) (signal : Signal) (payload : Bool) → Contains (local_list w x) (Signalled signal payload) → IsSendable signal
