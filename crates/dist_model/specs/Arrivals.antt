-- Arrivals at a node: the first item of a trunk, or of the node's own list.
-- (ERTS User's Guide, Distribution Protocol; Reference Manual, Processes, Delivery of Signals.)
use Rattle.std.specs.Prelude.{Option, None, Some, ℕ, Bool, true, not, if◌then◌else◌, List, [], ◌∷◌, nat_le, ◌&&◌}
use Rattle.dist_model.specs.Admission.{hears_name}
use Rattle.dist_model.specs.Commands.{Accepts, Outcome, Refuses}
use Rattle.dist_model.specs.declared.report.Answer.{Answer}
use Rattle.dist_model.specs.Handshake.{fault, handshake_at}
use Rattle.dist_model.specs.Items.{Handshake, Item, Signalled, Tick, kind_of}
use Rattle.erl_control.specs.Ends.{receiver_of, sender_of}
use Rattle.dist_model.specs.Names.{same_name}
use Rattle.dist_model.specs.Node.{Node, is_stranger}
use Rattle.dist_model.specs.Sides.{State, TrunkSide, Up, is_over, unheard}
use Rattle.dist_model.specs.Taking.{take_item}
use Rattle.dist_model.specs.Work.{Work, at_work}
use Rattle.conn_core.specs.declared.arrival.Fault.{Fault}
use Rattle.erl_handshake.specs.declared.fault.ShakeFault.{ShakeFault}
use Rattle.erl_handshake.specs.declared.message.ShakeMsg.{ShakeMsg}
use Rattle.erl_names.specs.declared.trunk.TrunkId.{TrunkId}
use Rattle.erl_term.specs.declared.refusal.Refusal.{Refusal}
use Rattle.erl_term.specs.declared.term.Pid.{Pid}

-- ---- on a side that is up, the process that a signal names as its sender has to be the peer's, of the incarnation that the
-- peer named or an earlier one. The process that it names as its receiver has to be one that this node has spawned

abbrev pub is_from : TrunkSide → Pid → Bool
is_from side p = same_name p.node side.peer && nat_le p.creation side.introduction.creation

abbrev pub from_peer : TrunkSide → Option Pid → Bool
from_peer side None = true
from_peer side (Some p) = is_from side p

abbrev pub is_to : Node → Pid → Bool
is_to node p = same_name p.node node.mint.name && not (is_stranger node p)

abbrev pub to_own : Node → Option Pid → Bool
to_own node None = true
to_own node (Some p) = is_to node p

abbrev pub is_good : Node → TrunkSide → Item → Bool
is_good node side (Signalled signal payload) = from_peer side (sender_of signal) && to_own node (receiver_of signal)
is_good node side (Handshake message) = true
is_good node side Tick = true

abbrev pub on_up : TrunkId → TrunkSide → Item → Work → Outcome
on_up trunk side item work =
    if is_good work.node side item then Accepts (Answer.Took (kind_of item)) (take_item side.peer item work) else fault Fault.Forged trunk side work

-- ---- the first item of a trunk comes

-- a signal or a tick isn't due before the connection is up
abbrev pub signal_at : State → TrunkId → TrunkSide → Item → Work → Outcome
signal_at Up trunk side item work = on_up trunk side item work
signal_at _ trunk side item work = fault (Fault.Shake ShakeFault.BadMessage) trunk side work

abbrev pub handshake_in : Item → Option ShakeMsg
handshake_in (Handshake message) = Some message
handshake_in _ = None

abbrev pub arrive_at : Option ShakeMsg → TrunkId → TrunkSide → Item → Work → Outcome
arrive_at None trunk side item work = signal_at side.state trunk side item work
arrive_at (Some message) trunk side item work = handshake_at side.state trunk side message work

-- to a side that the node doesn't have yet
abbrev pub arrive_fresh : Option ShakeMsg → TrunkId → ℕ → Work → Outcome
arrive_fresh None trunk word work = fault (Fault.Shake ShakeFault.BadMessage) trunk (unheard trunk) work
arrive_fresh (Some message) trunk word work = hears_name trunk message word work

abbrev pub arrive_first : Option Item → TrunkId → TrunkSide → Work → Outcome
arrive_first None trunk side work = Refuses Refusal.NothingThere
arrive_first (Some item) trunk side work = arrive_at (handshake_in item) trunk side item work

-- nothing comes to a side that is over, and a node without a side takes only what its peer has sent
abbrev pub arrive : Node → TrunkId → Option TrunkSide → (first : Option Item) → ℕ → Outcome
arrive node trunk None None word = Refuses Refusal.NotLive
arrive node trunk None (Some item) word = arrive_fresh (handshake_in item) trunk word (at_work node)
arrive node trunk (Some side) first word =
    if is_over side.state then Refuses Refusal.NotLive else arrive_first first trunk side (at_work node)

-- ---- the first item of the own list comes

abbrev pub take_local : Node → List Item → Outcome
take_local node [] = Refuses Refusal.NothingThere
take_local node (item ∷ rest) = Accepts (Answer.Took (kind_of item)) (take_item node.mint.name item (at_work (record node { local = rest })))
