-- A handshake between two nodes that have nothing else between them: each takes what the other has sent.
-- (ERTS User's Guide, Distribution Protocol, Distribution Handshake.)
use Rattle.std.specs.Prelude.{ℕ, false, Option, Some, None}
use Rattle.erl_handshake.specs.declared.message.ShakeMsg.{ShakeMsg}
use Rattle.erl_handshake.specs.declared.message.ShakeMsg.TheVariants.{Status}
use Rattle.erl_handshake.specs.declared.identity.Identity.{Identity}
use Rattle.erl_handshake.specs.declared.admission.OtherConnections.{OtherConnections}
use Rattle.erl_handshake.specs.declared.dialer.DialerState.{DialerState}
use Rattle.erl_handshake.specs.declared.dialer.DialerState.TheVariants as dialer
use Rattle.erl_handshake.specs.declared.acceptor.AcceptorState.{AcceptorState}
use Rattle.erl_handshake.specs.declared.acceptor.AcceptorState.TheVariants as acceptor
use Rattle.erl_handshake.specs.declared.turn.Turn.{Turn}
use Rattle.erl_handshake.specs.Admission.{status_due, admission}
use Rattle.erl_handshake.specs.Roles.{waits, send_name, challenge_of, dialer_turn, acceptor_turn, admitted, goes_on, turn_challenge}

abbrev pub nothing_else : OtherConnections
nothing_else = record { waiting = None; connected = false; dialing = false }

-- what was sent comes
abbrev pub takes : {State : Type 0} → (ShakeMsg → Turn State) → State → Option ShakeMsg → Turn State
takes turn state (Some message) = turn message
takes turn state None = waits state

-- both roles, when all that is sent has come
pub record Met : Type 0 where
  pub dialer : DialerState
  pub acceptor : AcceptorState

abbrev pub met : (dialing accepting : Identity) → (count challenge theirs : ℕ) → Met
met dialing accepting count challenge theirs =
    let on_dialer = dialer_turn dialing accepting.name in
    let on_acceptor = acceptor_turn accepting dialing.name in
    let named = on_acceptor acceptor.AwaitsName (send_name dialing) theirs in
    let decided = admitted (status_due dialing.name accepting.name count nothing_else) named.state in
    let told = on_dialer (dialer.AwaitsStatus challenge) (Status (admission dialing.name accepting.name count nothing_else).status) in
    let replies = on_dialer told.state (challenge_of accepting (turn_challenge decided)) in
    let asked = goes_on decided in
    let acknowledges = takes (λ message. on_acceptor asked message 0) asked replies.next.send in
    let sees = takes (on_dialer replies.state) replies.state acknowledges.next.send in
    record { dialer = sees.state; acceptor = acknowledges.state }
