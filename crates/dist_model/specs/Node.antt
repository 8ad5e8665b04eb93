-- The state of a node: its processes, with their names, links and monitors, and its connections.
use Rattle.std.specs.Prelude.{unwrap_or, Option, None, Some, is_some, ℕ, Bool, true, false, not}
use Rattle.std.specs.Prelude.{if◌then◌else◌, List, [], ◌∷◌, ◌==◌, nat_lt, ◌&&◌, ◌||◌}
use Rattle.std.specs.FinMap as fm
use Rattle.std.specs.List.{flat_map}
use Rattle.std.specs.Option.{option_map}
use Rattle.dist_model.specs.Items.{Item}
use Rattle.dist_model.specs.Names.{Name, pair_cmp, same_name, same_pid}
use Rattle.dist_model.specs.Naming.{NameMap}
use Rattle.dist_model.specs.Sides.{State, TrunkSide, is_up}
pub use Rattle.sorted_map.specs.Entries.{first_where}
use Rattle.erl_handshake.specs.Flags.{offers}
use Rattle.erl_handshake.specs.declared.flags.Flag.{Flag}
use Rattle.erl_names.specs.Minted.{Minted}
use Rattle.erl_names.specs.Order.{trunk_cmp}
use Rattle.erl_names.specs.declared.trunk.TrunkId.{TrunkId}
use Rattle.erl_term.specs.Data.{Data}
use Rattle.erl_term.specs.Order.{pid_cmp}
use Rattle.erl_term.specs.declared.term.Pid.{Pid}
use Rattle.link_core.specs.declared.end.End.{End}
use Rattle.monitor_core.specs.Monitors.{RegistrationMap, WatchMap}
use Rattle.std.specs.FinMap.{FinMap}

-- a process of the running incarnation. (Reference Manual, Processes)
pub data Life : Type 0 where
  Living : (trap : Bool) → (mailbox : List Data) → Life
  Ended : (reason : Data) → Life

pub record Node : Type 0 where
  -- its name and creation, and the draws of this incarnation
  pub mint : Minted
  pub cookie : List ℕ
  -- the flags that it offers
  pub flags : ℕ
  pub up : Bool
  -- the number of trunks that it has ever dialed
  pub dialed : ℕ
  pub lives : FinMap pid_cmp Life
  -- the process that has each registered name
  pub names : NameMap
  -- by the process and its partner
  pub ends : FinMap pair_cmp End
  -- the monitors that its processes own, and those that others have of them
  pub watches : WatchMap
  pub registered : RegistrationMap
  pub sides : FinMap trunk_cmp TrunkSide
  -- the items in flight from the node to itself
  pub local : List Item

abbrev pub is_living_life : Option Life → Bool
is_living_life (Some (Living trap mailbox)) = true
is_living_life _ = false

abbrev pub living : Node → Pid → Bool
living node p = is_living_life (fm.get node.lives p)

abbrev pub traps_life : Option Life → Bool
traps_life (Some (Living trap mailbox)) = trap
traps_life _ = false

abbrev pub traps : Node → Pid → Bool
traps node p = traps_life (fm.get node.lives p)

-- no process of the node has had this pid. It is of another node, its creation or its id is to come, or no process has such an id
abbrev pub is_stranger : Node → Pid → Bool
is_stranger node p =
    not (same_name p.node node.mint.name)
    || nat_lt node.mint.creation p.creation
    || (p.creation == node.mint.creation && nat_lt node.mint.pids p.id)
    || p.id == 0
    || not (p.serial == 0)

-- a missing end is an end of no link
abbrev pub end_of : Node → Pid → Pid → End
end_of node p q = unwrap_or (fm.get node.ends (p, q)) End.None

-- the links of a process, active and pending: its partners with the ends that it holds, in the order of the partners
abbrev pub links_in : List ((Pid × Pid) × End) → Pid → List (Pid × End)
links_in entries p = flat_map (λ entry. if same_pid entry.0.0 p then (entry.0.1, entry.1) ∷ [] else []) entries

abbrev pub ends_of : Node → Pid → List (Pid × End)
ends_of node p = links_in (fm.entries node.ends) p

-- the first side towards a peer whose state passes
abbrev pub side_where : (State → Bool) → Name → List (TrunkId × TrunkSide) → Option (TrunkId × TrunkSide)
side_where test peer = first_where (λ trunk side. same_name side.peer peer && test side.state)

abbrev pub route_in : List (TrunkId × TrunkSide) → Name → Option TrunkId
route_in entries peer = option_map (λ entry. entry.0) (side_where is_up peer entries)

-- the trunk that is up towards a peer
abbrev pub route : Node → Name → Option TrunkId
route node peer = route_in (fm.entries node.sides) peer

-- true if signals reach the node of that name: it is this node, or a trunk is up towards it
abbrev pub reaches : Node → Name → Bool
reaches node name = same_name name node.mint.name || is_some (route node name)

-- both nodes of a connection offer the flag
abbrev pub both_offer : Flag → Node → Option TrunkSide → Bool
both_offer flag node None = false
both_offer flag node (Some side) = offers node.flags flag && offers side.introduction.flags flag

-- reasons follow the control terms on this trunk. (ERTS User's Guide, Distribution Protocol, Distribution Flags, DFLAG_EXIT_PAYLOAD)
abbrev pub has_payload : Node → TrunkId → Bool
has_payload node trunk = both_offer Flag.ExitPayload node (fm.get node.sides trunk)

-- the same, with None for signals within the node, whose reasons don't follow
abbrev pub payload_on : Node → Option TrunkId → Bool
payload_on node None = false
payload_on node (Some trunk) = has_payload node trunk

abbrev pub payload_to : Node → Name → Bool
payload_to node name = not (same_name name node.mint.name) && payload_on node (route node name)

-- with None no connection is up, and neither node is asked
abbrev pub monitors_names_on : Node → Option TrunkId → Bool
monitors_names_on node None = true
monitors_names_on node (Some trunk) = both_offer Flag.DistMonitorName node (fm.get node.sides trunk)

-- a process may monitor one of that node by its name. (ERTS User's Guide, Distribution Protocol, Distribution Flags, DFLAG_DIST_MONITOR_NAME)
abbrev pub monitors_names : Node → Name → Bool
monitors_names node name = same_name name node.mint.name || monitors_names_on node (route node name)
