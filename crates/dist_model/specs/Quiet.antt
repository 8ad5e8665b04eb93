-- Two processes between which nothing is in flight.
use Rattle.std.specs.Prelude.{◌≡◌, Option, None, Some, is_some, Bool, true, false, not, if◌then◌else◌, List, [], ◌∷◌, ◌&&◌, ◌||◌}
use Rattle.std.specs.FinMap as fm
use Rattle.dist_model.specs.Items.{Handshake, Item, Signalled, Tick}
use Rattle.erl_control.specs.Ends.{receiver_of, sender_of}
use Rattle.dist_model.specs.Names.{Name, same_name, same_pid}
use Rattle.dist_model.specs.Node.{first_where}
use Rattle.dist_model.specs.Seen.{AreConnected, is_connected, local_list, seen, side_of_trunk}
use Rattle.dist_model.specs.Sides.{TrunkSide, is_up}
use Rattle.dist_model.specs.World.{World, list_to, node_of}
use Rattle.erl_names.specs.declared.trunk.TrunkId.{TrunkId}
use Rattle.erl_term.specs.declared.term.Pid.{Pid}

abbrev pub names : Pid → Option Pid → Bool
names p None = false
names p (Some named) = same_pid named p

-- a signal of p to q. A message names no sender, so it is of nobody
abbrev pub is_signal_of : Pid → Pid → Item → Bool
is_signal_of p q (Signalled signal payload) = names p (sender_of signal) && names q (receiver_of signal)
is_signal_of p q (Handshake message) = false
is_signal_of p q Tick = false

-- no signal of one of them to the other is in the list
abbrev pub nothing_between : Pid → Pid → List Item → Bool
nothing_between p q [] = true
nothing_between p q (item ∷ rest) = not (is_signal_of p q item || is_signal_of q p item) && nothing_between p q rest

-- in their node's own list; on a trunk that is up at both nodes; or because the nodes aren't connected
pub data Quiet (world : World) (p q : Pid) : Type 0 where
  Within : p.node ≡ q.node → nothing_between p q (local_list world p.node) ≡ true → Quiet world p q
  Over : same_name p.node q.node ≡ false → (trunk : TrunkId) → AreConnected world p.node trunk q.node
      → nothing_between p q (list_to world.lists trunk p.node) ≡ true
      → nothing_between p q (list_to world.lists trunk q.node) ≡ true → Quiet world p q
  Unconnected : same_name p.node q.node ≡ false → is_connected world p.node q.node ≡ false
      → is_connected world q.node p.node ≡ false → Quiet world p q

-- ---- the same as a test

abbrev pub is_up_to : Name → Option TrunkSide → Bool
is_up_to peer None = false
is_up_to peer (Some side) = same_name side.peer peer && is_up side.state

abbrev pub is_quiet_on : World → Pid → Pid → TrunkId → TrunkSide → Bool
is_quiet_on world p q trunk side =
    is_up_to q.node (Some side)
    && is_up_to p.node (side_of_trunk world q.node trunk)
    && nothing_between p q (list_to world.lists trunk p.node)
    && nothing_between p q (list_to world.lists trunk q.node)

abbrev pub is_quiet : World → Pid → Pid → Bool
is_quiet world p q =
    if same_name p.node q.node
    then nothing_between p q (local_list world p.node)
    else is_some (first_where (is_quiet_on world p q) (seen (node_of world.nodes p.node) [] (λ node. fm.entries node.sides)))
    || (not (is_connected world p.node q.node) && not (is_connected world q.node p.node))
