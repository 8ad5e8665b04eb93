-- How two nodes connect: what the messages of the handshake do to a node's sides.
-- (ERTS User's Guide, Distribution Protocol, Distribution Handshake. The messages, the statuses and what each tells
-- the dialer are the standard's; which of several sides ends or waits, and when, is own.)
use Rattle.erl_handshake.specs.declared.turn.Progress.{Progress as Verdict}
use Rattle.erl_handshake.specs.declared.turn.Progress.TheVariants as verdict
use Rattle.std.specs.Prelude.{Option, None, Some, ℕ}
use Rattle.std.specs.FinMap as fm
use Rattle.dist_model.specs.Commands.{Accepts, Outcome}
use Rattle.dist_model.specs.declared.report.Answer.{Answer}
use Rattle.dist_model.specs.Items.{Handshake, kind_of}
use Rattle.dist_model.specs.Names.{Name}
use Rattle.dist_model.specs.Node.{Node, side_where}
use Rattle.dist_model.specs.Sides.{Accepting, Asked, AwaitsAck, AwaitsChallenge, AwaitsStatus, Gone}
use Rattle.dist_model.specs.Sides.{Losing, Parked, State, TrunkSide, Up, in_state, is_losing, is_up, lost}
use Rattle.dist_model.specs.Work.{Work, send_on}
use Rattle.conn_core.specs.declared.arrival.Fault.{Fault}
use Rattle.erl_handshake.specs.declared.fault.ShakeFault.{ShakeFault}
use Rattle.erl_handshake.specs.Roles.{acceptor_turn, challenge_of, dialer_turn, introduction_of}
use Rattle.erl_handshake.specs.declared.acceptor.AcceptorState.{AcceptorState}
use Rattle.erl_handshake.specs.declared.dialer.DialerState.{DialerState}
use Rattle.erl_handshake.specs.declared.identity.Identity.{Identity}
use Rattle.erl_handshake.specs.declared.introduction.Introduction.{Introduction}
use Rattle.erl_handshake.specs.declared.message.ShakeMsg.{ShakeMsg}
use Rattle.erl_handshake.specs.declared.turn.Next.{Next}
use Rattle.erl_names.specs.declared.trunk.TrunkId.{TrunkId}

abbrev pub with_side : TrunkId → TrunkSide → Work → Work
with_side trunk side work = record work { node = record (work.node) { sides = fm.insert work.node.sides trunk side } }

abbrev pub set_state : TrunkId → TrunkSide → State → Work → Work
set_state trunk side state = with_side trunk (in_state state side)

abbrev pub write : TrunkId → Name → ShakeMsg → Work → Work
write trunk peer message = send_on (Some trunk) peer (Handshake message)

abbrev pub write_if : TrunkId → Name → Option ShakeMsg → Work → Work
write_if trunk peer None work = work
write_if trunk peer (Some message) work = write trunk peer message work

-- what comes breaks the side
abbrev pub fault : Fault → TrunkId → TrunkSide → Work → Outcome
fault why trunk side work = Accepts (Answer.Broken why) (set_state trunk side (lost side.state) work)

-- the node as it introduces itself
abbrev pub identity : Node → Identity
identity node = record { name = node.mint.name; creation = node.mint.creation; flags = node.flags; cookie = node.cookie }

-- its creation and its flags
abbrev pub introduces : Node → Introduction
introduces node = introduction_of (identity node)

abbrev pub challenge : Node → ℕ → ShakeMsg
challenge node word = challenge_of (identity node) word

-- it sends its challenge, and awaits the reply
abbrev pub send_challenge : TrunkId → TrunkSide → ℕ → Work → Work
send_challenge trunk side word work = write trunk side.peer (challenge work.node word) (set_state trunk side (Accepting word) work)

-- ---- a message that a side awaits

-- a side as the dialer's and the acceptor's turn leave it
abbrev pub dialer_side : TrunkSide → DialerState → TrunkSide
dialer_side side (DialerState.AwaitsStatus word) = record side { state = AwaitsStatus word }
dialer_side side (DialerState.AwaitsChallenge word) = record side { state = AwaitsChallenge word }
dialer_side side (DialerState.AwaitsAck word introduction) = record side { introduction = introduction; state = AwaitsAck word }
dialer_side side (DialerState.Done introduction) = record side { introduction = introduction; state = Up }
dialer_side side DialerState.Over = in_state Gone side

abbrev pub acceptor_side : TrunkSide → AcceptorState → TrunkSide
acceptor_side side AcceptorState.AwaitsName = side
acceptor_side side (AcceptorState.AwaitsAdmission word introduction) = side
acceptor_side side (AcceptorState.AwaitsAnswer word introduction) = record side { introduction = introduction; state = Asked word }
acceptor_side side (AcceptorState.AwaitsTurn word introduction) = record side { introduction = introduction; state = Parked word }
acceptor_side side (AcceptorState.AwaitsReply word introduction) = record side { introduction = introduction; state = Accepting word }
acceptor_side side (AcceptorState.Done introduction) = record side { introduction = introduction; state = Up }
acceptor_side side AcceptorState.Over = in_state Gone side

-- the role's turn says what is sent, and whether the handshake goes on
abbrev pub on_verdict : Verdict → TrunkId → (old new : TrunkSide) → ShakeMsg → Option ShakeMsg → Work → Outcome
on_verdict (verdict.Ended why) trunk old new message send work = fault (Fault.Shake why) trunk old work
on_verdict _ trunk old new message send work =
    Accepts (Answer.Took (kind_of (Handshake message))) (write_if trunk old.peer send (with_side trunk new work))

abbrev pub handshake_on : TrunkId → TrunkSide → ShakeMsg → TrunkSide → Next → Work → Outcome
handshake_on trunk old message new next work = on_verdict next.progress trunk old new message next.send work

abbrev pub dialer_hears : TrunkId → TrunkSide → DialerState → ShakeMsg → Work → Outcome
dialer_hears trunk side state message work =
    let turn = dialer_turn (identity work.node) side.peer state message in
    handshake_on trunk side message (dialer_side side turn.state) turn.next work

-- the event's word is of use with a name alone
abbrev pub acceptor_hears : TrunkId → TrunkSide → AcceptorState → ShakeMsg → Work → Outcome
acceptor_hears trunk side state message work =
    let turn = acceptor_turn (identity work.node) side.peer state message 0 in
    handshake_on trunk side message (acceptor_side side turn.state) turn.next work

-- ---- the dialer answers `true`: the older connection is lost, and once its records are swept the handshake goes on

abbrev pub up_is_lost : Option (TrunkId × TrunkSide) → Work → Work
up_is_lost None work = work
up_is_lost (Some entry) work = set_state entry.0 entry.1 Losing work

abbrev pub challenge_or_park : Option (TrunkId × TrunkSide) → TrunkId → TrunkSide → ℕ → Work → Work
challenge_or_park None trunk side word work = send_challenge trunk side word work
challenge_or_park (Some losing) trunk side word work = set_state trunk side (Parked word) work

abbrev pub send_challenge_or_park : TrunkId → TrunkSide → ℕ → Work → Work
send_challenge_or_park trunk side word work =
    challenge_or_park (side_where is_losing side.peer (fm.entries work.node.sides)) trunk side word work

abbrev pub after_answer : Verdict → TrunkId → TrunkSide → ℕ → ShakeMsg → Work → Outcome
after_answer (verdict.Ended why) trunk side word message work = fault (Fault.Shake why) trunk side work
after_answer _ trunk side word message work = Accepts (Answer.Took (kind_of (Handshake message)))
    (send_challenge_or_park trunk side word (up_is_lost (side_where is_up side.peer (fm.entries work.node.sides)) work))

abbrev pub hears_answer : TrunkId → TrunkSide → ℕ → ShakeMsg → Work → Outcome
hears_answer trunk side word message work =
    let turn = acceptor_turn (identity work.node) side.peer (AcceptorState.AwaitsAnswer word side.introduction) message 0 in
    after_answer turn.next.progress trunk side word message work

-- ---- a message of the handshake comes to a side. Each state awaits one

abbrev pub handshake_at : State → TrunkId → TrunkSide → ShakeMsg → Work → Outcome
handshake_at (AwaitsStatus word) trunk side message work = dialer_hears trunk side (DialerState.AwaitsStatus word) message work
handshake_at (AwaitsChallenge word) trunk side message work = dialer_hears trunk side (DialerState.AwaitsChallenge word) message work
handshake_at (AwaitsAck word) trunk side message work = dialer_hears trunk side (DialerState.AwaitsAck word side.introduction) message work
handshake_at (Asked word) trunk side message work = hears_answer trunk side word message work
handshake_at (Accepting word) trunk side message work =
    acceptor_hears trunk side (AcceptorState.AwaitsReply word side.introduction) message work
handshake_at _ trunk side message work = fault (Fault.Shake ShakeFault.BadMessage) trunk side work
