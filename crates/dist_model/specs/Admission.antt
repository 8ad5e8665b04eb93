-- A dialer's name comes to a new side: whether the attempt goes on, and which others it ends.
-- (ERTS User's Guide, Distribution Protocol, Distribution Handshake, the status message. What each status tells the
-- dialer is the standard's; which of several attempts goes on is own.)
use Rattle.std.specs.Prelude.{Option, None, Some, is_some, ℕ, Bool, if◌then◌else◌}
use Rattle.std.specs.Option.{option_map}
use Rattle.std.specs.FinMap as fm
use Rattle.erl_handshake.specs.declared.turn.Progress.{Progress}
use Rattle.erl_handshake.specs.declared.turn.Progress.TheVariants as progress
use Rattle.dist_model.specs.Commands.{Accepts, Outcome}
use Rattle.dist_model.specs.declared.report.Answer.{Answer}
use Rattle.dist_model.specs.Handshake.{fault, identity, send_challenge, set_state, write}
use Rattle.dist_model.specs.declared.report.Kind.{Kind}
use Rattle.dist_model.specs.Names.{Name}
use Rattle.dist_model.specs.Node.{Node, side_where}
use Rattle.dist_model.specs.Sides.{Asked, Gone, State, TrunkSide, holds, is_dialing, is_waiting, unheard}
use Rattle.dist_model.specs.Work.{Work}
use Rattle.conn_core.specs.declared.arrival.Fault.{Fault}
use Rattle.erl_handshake.specs.declared.fault.ShakeFault.{ShakeFault}
use Rattle.erl_handshake.specs.Admission.{admission}
use Rattle.erl_handshake.specs.Roles.{acceptor_turn}
use Rattle.erl_handshake.specs.declared.acceptor.AcceptorState.{AcceptorState}
use Rattle.erl_handshake.specs.declared.admission.OtherConnections.{OtherConnections}
use Rattle.erl_handshake.specs.declared.message.ShakeMsg.{ShakeMsg}
use Rattle.erl_handshake.specs.declared.status.Status.{Status}
use Rattle.erl_names.specs.declared.trunk.TrunkId.{TrunkId}
use Rattle.erl_handshake.specs.declared.introduction.Introduction.{Introduction}
use Rattle.dist_model.specs.Sides.{untold}
use Rattle.erl_handshake.specs.Roles.{introduction_by}

-- another attempt ends: its side is gone
abbrev pub give_up : Option (TrunkId × TrunkSide) → Work → Work
give_up None work = work
give_up (Some entry) work = set_state entry.0 entry.1 Gone work

abbrev pub give_up_if : Bool → (State → Bool) → Name → Work → Work
give_up_if ends test dialer work = if ends then give_up (side_where test dialer (fm.entries work.node.sides)) work else work

-- the connections that the node has with the dialer already
abbrev pub others : Node → Name → OtherConnections
others node dialer = let sides = fm.entries node.sides in record {
  waiting = option_map (λ entry. entry.0.count) (side_where is_waiting dialer sides);
  connected = is_some (side_where holds dialer sides);
  dialing = is_some (side_where is_dialing dialer sides);
}

-- after `alive` the dialer is asked whether it goes on
abbrev pub stands_after : Status → TrunkId → TrunkSide → ℕ → Work → Work
stands_after Status.Ok trunk side word work = send_challenge trunk side word work
stands_after Status.OkSimultaneous trunk side word work = send_challenge trunk side word work
stands_after Status.Alive trunk side word work = set_state trunk side (Asked word) work
stands_after _ trunk side word work = set_state trunk side Gone work

abbrev pub answer_to : Progress → Answer
answer_to (progress.Ended ShakeFault.Superseded) = Answer.Broken (Fault.Shake ShakeFault.Superseded)
answer_to _ = Answer.Took Kind.SendName

-- which attempts end, and what the dialer is told
abbrev pub admit : TrunkId → TrunkSide → ℕ → Work → Outcome
admit trunk side word work =
    let due = admission trunk.dialer work.node.mint.name trunk.count (others work.node trunk.dialer) in
    Accepts (answer_to due.progress)
    (stands_after due.status trunk side word
    (write trunk side.peer (ShakeMsg.Status due.status)
    (give_up_if due.ends_dialing is_dialing trunk.dialer
    (give_up_if due.ends_waiting is_waiting trunk.dialer work))))

-- of the dialer, with the creation and the flags that it named
abbrev pub named_introduction : ShakeMsg → Introduction
named_introduction (ShakeMsg.SendName flags creation name) = introduction_by creation flags
named_introduction _ = untold

abbrev pub new_side : TrunkId → ShakeMsg → TrunkSide
new_side trunk message = record (unheard trunk) { introduction = named_introduction message }

abbrev pub after_name : Progress → TrunkId → TrunkSide → ℕ → Work → Outcome
after_name (progress.Ended why) trunk side word work = fault (Fault.Shake why) trunk side work
after_name _ trunk side word work = admit trunk side word work

-- the acceptor's turn says whether it is the dialer's name, with the flags. The word becomes the side's challenge
abbrev pub hears_name : TrunkId → ShakeMsg → ℕ → Work → Outcome
hears_name trunk message word work =
    after_name (acceptor_turn (identity work.node) trunk.dialer AcceptorState.AwaitsName message word).next.progress trunk
    (new_side trunk message) word work
