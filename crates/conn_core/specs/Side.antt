-- One side of a connection between two nodes: how it stands, and what comes of what arrives.
-- (ERTS User's Guide, Distribution Protocol, Distribution Handshake.)
use Rattle.std.specs.Prelude.{ℕ, Bool, true, false, List, Option, Some, None}
use Rattle.erl_names.specs.declared.trunk.TrunkId.{TrunkId}
use Rattle.erl_control.specs.declared.signal.Item.{Item}
use Rattle.erl_control.specs.declared.error.FrameFault.{FrameFault}
use Rattle.erl_handshake.specs.declared.fault.ShakeFault.TheVariants.{BadMessage}
use Rattle.erl_handshake.specs.declared.message.ShakeMsg.{ShakeMsg}
use Rattle.erl_handshake.specs.declared.identity.Identity.{Identity}
use Rattle.erl_handshake.specs.declared.introduction.Introduction.{Introduction}
use Rattle.erl_handshake.specs.declared.turn.Next.{Next}
use Rattle.erl_handshake.specs.declared.turn.Progress.{Progress}
use Rattle.erl_handshake.specs.declared.turn.Progress.TheVariants.{Go, Done, Ended}
use Rattle.erl_handshake.specs.declared.dialer.DialerState.{DialerState}
use Rattle.erl_handshake.specs.declared.dialer.DialerState.TheVariants as dialer
use Rattle.erl_handshake.specs.declared.acceptor.AcceptorState.{AcceptorState}
use Rattle.erl_handshake.specs.declared.acceptor.AcceptorState.TheVariants as acceptor
use Rattle.erl_handshake.specs.declared.admission.OtherConnections.{OtherConnections}
use Rattle.erl_handshake.specs.Admission.{status_due}
use Rattle.erl_handshake.specs.Roles.{dialer_turn, acceptor_turn, admitted, awaits_admission, goes_on, turn_challenge, awaits_turn}
use Rattle.conn_core.specs.declared.standing.Standing.{Standing}
use Rattle.conn_core.specs.declared.standing.Standing.TheVariants.{Dialing, Accepting, Up, Losing, Gone}
use Rattle.conn_core.specs.declared.state.SideState.{SideState}
use Rattle.conn_core.specs.declared.state.SideState.TheVariants as state
use Rattle.conn_core.specs.declared.arrival.Fault.{Fault}
use Rattle.conn_core.specs.declared.arrival.Fault.TheVariants.{Shake, Frame}
use Rattle.conn_core.specs.declared.arrival.Taken.{Taken}
use Rattle.conn_core.specs.declared.arrival.Taken.TheVariants as taken
use Rattle.conn_core.specs.declared.arrival.Arrival.{Arrival}

-- a handshake goes on, or is done, or over
abbrev pub of_dialer : DialerState → Standing
of_dialer (dialer.AwaitsStatus challenge) = Dialing (dialer.AwaitsStatus challenge)
of_dialer (dialer.AwaitsChallenge challenge) = Dialing (dialer.AwaitsChallenge challenge)
of_dialer (dialer.AwaitsAck challenge introduction) = Dialing (dialer.AwaitsAck challenge introduction)
of_dialer (dialer.Done introduction) = Up introduction
of_dialer dialer.Over = Gone

abbrev pub of_acceptor : AcceptorState → Standing
of_acceptor acceptor.AwaitsName = Accepting acceptor.AwaitsName
of_acceptor (acceptor.AwaitsAdmission challenge introduction) = Accepting (acceptor.AwaitsAdmission challenge introduction)
of_acceptor (acceptor.AwaitsAnswer challenge introduction) = Accepting (acceptor.AwaitsAnswer challenge introduction)
of_acceptor (acceptor.AwaitsTurn challenge introduction) = Accepting (acceptor.AwaitsTurn challenge introduction)
of_acceptor (acceptor.AwaitsReply challenge introduction) = Accepting (acceptor.AwaitsReply challenge introduction)
of_acceptor (acceptor.Done introduction) = Up introduction
of_acceptor acceptor.Over = Gone

-- ---- the eight states by name

-- a side is Fresh until the attempt is decided on
abbrev pub acceptor_state : AcceptorState → SideState
acceptor_state acceptor.AwaitsName = state.Fresh
acceptor_state (acceptor.AwaitsAdmission challenge introduction) = state.Fresh
acceptor_state (acceptor.AwaitsAnswer challenge introduction) = state.Asked
acceptor_state (acceptor.AwaitsTurn challenge introduction) = state.Parked
acceptor_state _ = state.Accepting

abbrev pub state_of : Standing → SideState
state_of (Dialing d) = state.Dialing
state_of (Accepting a) = acceptor_state a
state_of (Up introduction) = state.Up
state_of (Losing introduction) = state.Losing
state_of Gone = state.Gone

-- ---- the peer's creation and flags, once it has told them

abbrev pub dialer_peer : DialerState → Option Introduction
dialer_peer (dialer.AwaitsAck challenge introduction) = Some introduction
dialer_peer _ = None

abbrev pub acceptor_peer : AcceptorState → Option Introduction
acceptor_peer (acceptor.AwaitsAdmission challenge introduction) = Some introduction
acceptor_peer (acceptor.AwaitsAnswer challenge introduction) = Some introduction
acceptor_peer (acceptor.AwaitsTurn challenge introduction) = Some introduction
acceptor_peer (acceptor.AwaitsReply challenge introduction) = Some introduction
acceptor_peer _ = None

abbrev pub peer_introduction : Standing → Option Introduction
peer_introduction (Dialing d) = dialer_peer d
peer_introduction (Accepting a) = acceptor_peer a
peer_introduction (Up introduction) = Some introduction
peer_introduction (Losing introduction) = Some introduction
peer_introduction Gone = None

-- ---- what is lost, or broken by a fault: a side that is up has to be cleared away, any other is gone

abbrev pub lost : Standing → Standing
lost (Dialing d) = Gone
lost (Accepting a) = Gone
lost (Up introduction) = Losing introduction
lost (Losing introduction) = Losing introduction
lost Gone = Gone

-- whether there is something to lose
abbrev pub is_live : SideState → Bool
is_live state.Fresh = false
is_live state.Dialing = true
is_live state.Asked = true
is_live state.Parked = true
is_live state.Accepting = true
is_live state.Up = true
is_live state.Losing = false
is_live state.Gone = false

-- whether anything may arrive
abbrev pub listens : SideState → Bool
listens state.Fresh = true
listens state.Dialing = true
listens state.Asked = true
listens state.Parked = true
listens state.Accepting = true
listens state.Up = true
listens state.Losing = false
listens state.Gone = false

-- ---- what arrives

-- a message that ends the handshake breaks the side
abbrev pub taken_by : Progress → ShakeMsg → (send : Option ShakeMsg) → Taken
taken_by Go message send = taken.Message message send
taken_by Done message send = taken.Message message send
taken_by (Ended why) message send = taken.Broken (Shake why)

abbrev pub taken_as : ShakeMsg → Next → Taken
taken_as message next = taken_by next.progress message next.send

-- bytes that can't be read, or aren't due
abbrev pub breaks : Standing → Fault → Arrival
breaks standing fault = record { standing = lost standing; was = taken.Broken fault; len = 0 }

abbrev pub on_no_message : Standing → Arrival
on_no_message standing = breaks standing (Shake BadMessage)

abbrev pub on_no_frame : Standing → FrameFault → Arrival
on_no_frame standing why = breaks standing (Frame why)

-- a message of the handshake of so many bytes, with the event's word
abbrev pub on_message : (own : Identity) → (peer : List ℕ) → Standing → ShakeMsg → (word len : ℕ) → Arrival
on_message own peer (Dialing d) message word len =
    let turn = dialer_turn own peer d message in record { standing = of_dialer turn.state; was = taken_as message turn.next; len = len }
on_message own peer (Accepting a) message word len =
    let turn =
    acceptor_turn own peer a message word in record { standing = of_acceptor turn.state; was = taken_as message turn.next; len = len }
on_message own peer standing message word len = on_no_message standing

-- what a frame of so many bytes carries
abbrev pub on_item : Standing → Item → (len : ℕ) → Arrival
on_item standing item len = record { standing = standing; was = taken.Item item; len = len }

-- ---- the node's word on an attempt

abbrev pub awaits_admission_of : Standing → Bool
awaits_admission_of (Accepting a) = awaits_admission a
awaits_admission_of _ = false

-- the attempt goes on at the node of this name, or not, beside these others
abbrev pub admitted_at : (own : List ℕ) → TrunkId → Standing → OtherConnections → Standing
admitted_at own trunk (Accepting a) others = of_acceptor (admitted (status_due trunk.dialer own trunk.count others) a)
admitted_at own trunk standing others = standing

abbrev pub awaits_turn_of : Standing → Bool
awaits_turn_of (Accepting a) = awaits_turn a
awaits_turn_of _ = false

-- the challenge is sent
abbrev pub gone_on : Standing → Standing
gone_on (Accepting a) = of_acceptor (goes_on a)
gone_on standing = standing

abbrev pub challenge_at : Standing → ℕ
challenge_at (Accepting a) = turn_challenge a
challenge_at _ = 0
