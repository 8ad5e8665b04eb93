-- The properties that every event of a node keeps.
-- (ERTS User's Guide, Distribution Protocol, Distribution Handshake. Own: a side stays once it is gone.)
use Rattle.std.specs.Prelude.{◌≡◌, ◌≢◌, ◌≤◌, ◌⊎◌, ◌||◌, ℕ, Bool, true, false, None, Some, Contains}
use Rattle.std.specs.FinMap as fm
use Rattle.dist_model.specs.Commands.{Accepts, Outcome}
use Rattle.dist_model.specs.Dialing.{next_trunk}
use Rattle.dist_model.specs.declared.report.Answer.{Answer}
use Rattle.dist_model.specs.Items.{Item}
use Rattle.dist_model.specs.Names.{Name}
use Rattle.dist_model.specs.Naming.{IsOneToOne}
use Rattle.dist_model.specs.Node.{Node, end_of, living}
use Rattle.dist_model.specs.NodeEvents.{Arrive, Dial, NodeEvent}
use Rattle.dist_model.specs.Sides.{Asked, Gone, Parked, State, TrunkSide, is_dialing, is_waiting}
use Rattle.dist_model.specs.Work.{Work}
use Rattle.dist_model.specs.declared.report.Effect.{Effect}
use Rattle.erl_names.specs.declared.trunk.TrunkId.{TrunkId}
use Rattle.erl_term.specs.declared.term.Pid.{Pid}
use Rattle.erl_term.specs.declared.term.Reference.{Reference}
use Rattle.link_core.specs.declared.end.End.{End}
use Rattle.monitor_core.specs.declared.monitor.Registration.{Registration}
use Rattle.monitor_core.specs.declared.monitor.Watch.{Watch}

abbrev pub IsAccepted : Outcome → Type 0
IsAccepted outcome = (answer : Answer) × (work : Work) × (outcome ≡ Accepts answer work)

-- the node has a side of the trunk, towards that peer
pub record Towards (node : Node) (trunk : TrunkId) (name : Name) : Type 0 where
  pub side : TrunkSide
  pub there : fm.get node.sides trunk ≡ Some side
  pub peer : side.peer ≡ name

-- an item of the trunk comes
abbrev pub Comes : NodeEvent → TrunkId → Type 0
Comes event trunk = (item : Item) × (word : ℕ) × (event ≡ Arrive trunk (Some item) word)

-- the node dials another on the trunk
abbrev pub Dials : Node → NodeEvent → TrunkId → Name → Type 0
Dials node event trunk peer =
    ((word : ℕ) × (event ≡ Dial peer word)) × (trunk ≡ next_trunk node) × (peer ≡ node.mint.name → ⊥)

pub record Bearings (node : Node) (event : NodeEvent) (work : Work) : Type 0 where
  pub name : work.node.mint.name ≡ node.mint.name
  -- a side stays, towards its peer. If the node dials on its trunk, the side is towards the dialed node
  pub stays : (trunk : TrunkId) (peer : Name) → Towards node trunk peer
      → Towards work.node trunk peer ⊎ ((other : Name) × Dials node event trunk other × Towards work.node trunk other)
  -- each item sent on a trunk goes to the peer of its side
  pub sent : (trunk : TrunkId) (peer : Name) (item : Item)
      → Contains work.effects (Effect.Sent (Some trunk) peer item) → Towards work.node trunk peer
  -- a new side comes about by an item, towards its dialer, or by a dial of the node
  pub new : (trunk : TrunkId) (side : TrunkSide) → fm.get node.sides trunk ≡ None → fm.get work.node.sides trunk ≡ Some side
      → (Comes event trunk × (side.peer ≡ trunk.dialer)) ⊎ Dials node event trunk side.peer

-- ---- the properties of a node at all times

-- the side dials, has accepted, or is a connection: it doesn't wait for another's end
abbrev pub is_engaged : State → Bool
is_engaged (Asked w) = false
is_engaged (Parked w) = false
is_engaged Gone = false
is_engaged _ = true

-- the connection isn't there yet
abbrev pub is_attempt : State → Bool
is_attempt state = is_dialing state || is_waiting state

-- at most one of the sides towards a peer has a state that passes
abbrev pub AtMostOne : (State → Bool) → Node → Type 0
AtMostOne test node = (t u : TrunkId) (s v : TrunkSide) → fm.get node.sides t ≡ Some s → fm.get node.sides u ≡ Some v → s.peer ≡ v.peer
    → test s.state ≡ true → test v.state ≡ true → t ≡ u

pub record Steady (node : Node) : Type 0 where
  pub engaged : AtMostOne is_engaged node
  pub attempts : AtMostOne is_attempt node
  -- links, own monitors and names belong to living processes, and monitors of others are bound to living ones
  pub ends : (p q : Pid) → end_of node p q ≢ End.None → living node p ≡ true
  pub owners : (r : Reference) (m : Watch) → fm.get node.watches r ≡ Some m → living node m.owner ≡ true
  pub bound : (r : Reference) (m : Registration) → fm.get node.registered r ≡ Some m → living node m.held ≡ true
  pub holders : (name : Name) (p : Pid) → fm.get node.names name ≡ Some p → living node p ≡ true
  -- a process has one name at most
  pub one_name : IsOneToOne node.names

-- ---- the trunks of which a node is the dialer

-- the node has dialed those that it has sides of
abbrev pub CountsOwn : Node → Type 0
CountsOwn node = (t : TrunkId) (s : TrunkSide) → fm.get node.sides t ≡ Some s → t.dialer ≡ node.mint.name → t.count ≤ node.dialed

-- no item comes on one that the node has no side of
abbrev pub ComesOfOthers : Node → NodeEvent → Type 0
ComesOfOthers node event = (t : TrunkId) → Comes event t → t.dialer ≡ node.mint.name → fm.get node.sides t ≢ None
