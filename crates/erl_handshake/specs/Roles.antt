-- The two roles of the handshake: what each message does to the dialer and to the acceptor, what goes
-- back, and how it ends. A state is named by what it awaits.
-- (ERTS User's Guide, Distribution Protocol, Distribution Handshake.)
use Rattle.std.specs.Prelude.{ℕ, Bool, true, false, nat_eq, if◌then◌else◌, List, Option, Some, None}
use Rattle.std.specs.Cmp.Lexicographic.{pointwise}
use Rattle.erl_handshake.specs.declared.fault.ShakeFault.{ShakeFault}
use Rattle.erl_handshake.specs.declared.fault.ShakeFault.TheVariants.{BadMessage, FlagsMissing, BadDigest, Nok, Forged}
use Rattle.erl_handshake.specs.declared.status.Status.{Status as TheStatus}
use Rattle.erl_handshake.specs.declared.status.Status.TheVariants as status
use Rattle.erl_handshake.specs.declared.message.ShakeMsg.{ShakeMsg}
use Rattle.erl_handshake.specs.declared.message.ShakeMsg.TheVariants.{SendName, Status, Challenge, ChallengeReply, ChallengeAck}
use Rattle.erl_handshake.specs.declared.identity.Identity.{Identity}
use Rattle.erl_handshake.specs.declared.introduction.Introduction.{Introduction}
use Rattle.erl_handshake.specs.declared.turn.Turn.{Turn}
use Rattle.erl_handshake.specs.declared.turn.Progress.TheVariants as progress
use Rattle.erl_handshake.specs.declared.dialer.DialerState.{DialerState}
use Rattle.erl_handshake.specs.declared.dialer.DialerState.TheVariants as dialer
use Rattle.erl_handshake.specs.declared.acceptor.AcceptorState.{AcceptorState}
use Rattle.erl_handshake.specs.declared.acceptor.AcceptorState.TheVariants as acceptor
use Rattle.erl_handshake.specs.Flags.{has_all_of, mandatory}
use Rattle.erl_handshake.specs.Digest.{digest_of}

-- nothing is sent
abbrev pub waits : {State : Type 0} → State → Turn State
waits state = record { state = state; next = record { send = None; progress = progress.Go } }

abbrev pub says : {State : Type 0} → ShakeMsg → State → Turn State
says message state = record { state = state; next = record { send = Some message; progress = progress.Go } }

abbrev pub dialer_ends : ShakeFault → Turn DialerState
dialer_ends why = record { state = dialer.Over; next = record { send = None; progress = progress.Ended why } }

abbrev pub acceptor_ends : ShakeFault → Turn AcceptorState
acceptor_ends why = record { state = acceptor.Over; next = record { send = None; progress = progress.Ended why } }

-- ---- what both roles test

abbrev pub is_same : List ℕ → List ℕ → Bool
is_same = pointwise nat_eq

-- a peer that introduces itself: it has to be the node of the connection, and offer each mandatory flag
abbrev pub introduction_fault : (expected name : List ℕ) → (flags : ℕ) → Option ShakeFault
introduction_fault expected name flags =
    if is_same name expected then (if has_all_of flags mandatory then None else Some FlagsMissing) else Some Forged

-- what a peer tells of itself: its creation and its flags
abbrev pub introduction_by : (creation flags : ℕ) → Introduction
introduction_by creation flags = record { creation = creation; flags = flags }

abbrev pub introduction_of : Identity → Introduction
introduction_of own = introduction_by own.creation own.flags

-- the peer shows that it knows the cookie by the digest over the challenge that it was sent
abbrev pub is_answered : (cookie : List ℕ) → (challenge : ℕ) → (digest : List ℕ) → Bool
is_answered cookie challenge digest = is_same digest (digest_of cookie challenge)

-- ---- the dialer, whose first message is send_name

abbrev pub send_name : Identity → ShakeMsg
send_name own = SendName own.flags own.creation own.name

abbrev pub on_status : (challenge : ℕ) → TheStatus → Turn DialerState
on_status challenge status.Ok = waits (dialer.AwaitsChallenge challenge)
on_status challenge status.OkSimultaneous = waits (dialer.AwaitsChallenge challenge)
on_status challenge status.Alive = says (Status status.True) (dialer.AwaitsChallenge challenge)
on_status challenge status.Nok = dialer_ends Nok
on_status challenge status.NotAllowed = dialer_ends Nok
on_status challenge status.True = dialer_ends BadMessage
on_status challenge status.False = dialer_ends BadMessage

abbrev pub awaits_status : (challenge : ℕ) → ShakeMsg → Turn DialerState
awaits_status challenge (Status s) = on_status challenge s
awaits_status challenge _ = dialer_ends BadMessage

-- the reply shows the digest over the acceptor's challenge, and carries the dialer's
abbrev pub on_challenge : Option ShakeFault → Identity → (challenge theirs : ℕ) → Introduction → Turn DialerState
on_challenge (Some why) own challenge theirs introduction = dialer_ends why
on_challenge None own challenge theirs introduction =
    says (ChallengeReply challenge (digest_of own.cookie theirs)) (dialer.AwaitsAck challenge introduction)

abbrev pub awaits_challenge : Identity → (peer : List ℕ) → (challenge : ℕ) → ShakeMsg → Turn DialerState
awaits_challenge own peer challenge (Challenge flags theirs creation name) =
    on_challenge (introduction_fault peer name flags) own challenge theirs (introduction_by creation flags)
awaits_challenge own peer challenge _ = dialer_ends BadMessage

abbrev pub awaits_ack : Identity → (challenge : ℕ) → Introduction → ShakeMsg → Turn DialerState
awaits_ack own challenge introduction (ChallengeAck digest) =
    if is_answered own.cookie challenge digest
    then record { state = dialer.Done introduction; next = record { send = None; progress = progress.Done } }
    else dialer_ends BadDigest
awaits_ack own challenge introduction _ = dialer_ends BadMessage

-- what a message does to a dialer of this peer
abbrev pub dialer_turn : Identity → (peer : List ℕ) → DialerState → ShakeMsg → Turn DialerState
dialer_turn own peer (dialer.AwaitsStatus challenge) message = awaits_status challenge message
dialer_turn own peer (dialer.AwaitsChallenge challenge) message = awaits_challenge own peer challenge message
dialer_turn own peer (dialer.AwaitsAck challenge introduction) message = awaits_ack own challenge introduction message
dialer_turn own peer (dialer.Done introduction) message = dialer_ends BadMessage
dialer_turn own peer dialer.Over message = dialer_ends BadMessage

-- ---- the acceptor

abbrev pub challenge_of : Identity → (challenge : ℕ) → ShakeMsg
challenge_of own challenge = Challenge own.flags challenge own.creation own.name

-- the word becomes the acceptor's challenge
abbrev pub on_name : Option ShakeFault → Introduction → (word : ℕ) → Turn AcceptorState
on_name (Some why) introduction word = acceptor_ends why
on_name None introduction word = waits (acceptor.AwaitsAdmission word introduction)

abbrev pub awaits_name : (peer : List ℕ) → ShakeMsg → (word : ℕ) → Turn AcceptorState
awaits_name peer (SendName flags creation name) word = on_name (introduction_fault peer name flags) (introduction_by creation flags) word
awaits_name peer _ word = acceptor_ends BadMessage

-- the dialer's answer to `alive`
abbrev pub on_answer : (challenge : ℕ) → Introduction → TheStatus → Turn AcceptorState
on_answer challenge introduction status.True = waits (acceptor.AwaitsTurn challenge introduction)
on_answer challenge introduction status.False = acceptor_ends Nok
on_answer challenge introduction _ = acceptor_ends BadMessage

abbrev pub awaits_answer : (challenge : ℕ) → Introduction → ShakeMsg → Turn AcceptorState
awaits_answer challenge introduction (Status s) = on_answer challenge introduction s
awaits_answer challenge introduction _ = acceptor_ends BadMessage

-- the acknowledgement shows the digest over the dialer's challenge
abbrev pub awaits_reply : Identity → (challenge : ℕ) → Introduction → ShakeMsg → Turn AcceptorState
awaits_reply own challenge introduction (ChallengeReply theirs digest) =
    if is_answered own.cookie challenge digest
    then record {
      state = acceptor.Done introduction;
      next = record { send = Some (ChallengeAck (digest_of own.cookie theirs)); progress = progress.Done };
    }
    else acceptor_ends BadDigest
awaits_reply own challenge introduction _ = acceptor_ends BadMessage

-- what a message does to an acceptor of this peer
abbrev pub acceptor_turn : Identity → (peer : List ℕ) → AcceptorState → ShakeMsg → (word : ℕ) → Turn AcceptorState
acceptor_turn own peer acceptor.AwaitsName message word = awaits_name peer message word
acceptor_turn own peer (acceptor.AwaitsAdmission challenge introduction) message word = acceptor_ends BadMessage
acceptor_turn own peer (acceptor.AwaitsAnswer challenge introduction) message word = awaits_answer challenge introduction message
acceptor_turn own peer (acceptor.AwaitsTurn challenge introduction) message word = acceptor_ends BadMessage
acceptor_turn own peer (acceptor.AwaitsReply challenge introduction) message word = awaits_reply own challenge introduction message
acceptor_turn own peer (acceptor.Done introduction) message word = acceptor_ends BadMessage
acceptor_turn own peer acceptor.Over message word = acceptor_ends BadMessage

-- the node decides on the attempt: what the acceptor awaits once it has said this status
abbrev pub after_status : TheStatus → (challenge : ℕ) → Introduction → AcceptorState
after_status status.Ok challenge introduction = acceptor.AwaitsTurn challenge introduction
after_status status.OkSimultaneous challenge introduction = acceptor.AwaitsTurn challenge introduction
after_status status.Alive challenge introduction = acceptor.AwaitsAnswer challenge introduction
after_status _ challenge introduction = acceptor.Over

abbrev pub admitted : TheStatus → AcceptorState → AcceptorState
admitted said (acceptor.AwaitsAdmission challenge introduction) = after_status said challenge introduction
admitted said state = state

abbrev pub awaits_admission : AcceptorState → Bool
awaits_admission (acceptor.AwaitsAdmission challenge introduction) = true
awaits_admission _ = false

-- the node lets the challenge be sent
abbrev pub goes_on : AcceptorState → AcceptorState
goes_on (acceptor.AwaitsTurn challenge introduction) = acceptor.AwaitsReply challenge introduction
goes_on state = state

abbrev pub turn_challenge : AcceptorState → ℕ
turn_challenge (acceptor.AwaitsTurn challenge introduction) = challenge
turn_challenge _ = 0

abbrev pub awaits_turn : AcceptorState → Bool
awaits_turn (acceptor.AwaitsTurn challenge introduction) = true
awaits_turn _ = false
