-- What comes on a new connection is accepted, so only want of memory can refuse it.
use Rattle.std.proofs.Common.{ℕ, Bool, true, false, cond, Option, refl}
use Rattle.conn_core.specs.declared.arrival.Fault.{Fault}
use Rattle.dist_model.specs.Arrivals.{is_good, on_up}
use Rattle.dist_model.specs.Commands.{Accepts, Outcome}
use Rattle.dist_model.specs.Handshake.{acceptor_hears, acceptor_side, after_answer, dialer_hears}
use Rattle.dist_model.specs.Handshake.{dialer_side, fault, handshake_at, identity, on_verdict}
use Rattle.dist_model.specs.Items.{Item, kind_of}
use Rattle.dist_model.specs.Keeping.{IsAccepted}
use Rattle.dist_model.specs.Sides.{Accepting, Asked, AwaitsAck, AwaitsChallenge, AwaitsStatus, State, TrunkSide}
use Rattle.dist_model.specs.Taking.{take_item}
use Rattle.dist_model.specs.Work.{Work}
use Rattle.dist_model.specs.declared.report.Answer.{Answer}
use Rattle.erl_handshake.specs.Roles.{acceptor_turn, dialer_turn}
use Rattle.erl_handshake.specs.declared.acceptor.AcceptorState.{AcceptorState}
use Rattle.erl_handshake.specs.declared.dialer.DialerState.{DialerState}
use Rattle.erl_handshake.specs.declared.message.ShakeMsg.{ShakeMsg}
use Rattle.erl_handshake.specs.declared.turn.Progress.{Progress}
use Rattle.erl_handshake.specs.declared.turn.Progress.TheVariants as progress
use Rattle.erl_names.specs.declared.trunk.TrunkId.{TrunkId}
use Rattle.erl_term.specs.declared.refusal.Refusal.{Refusal}
use Rattle.node_plan.proofs.Outcomes.{lacks}
use Rattle.node_plan.specs.Planned.{IsRefused}

-- so is a message of the handshake at a side that isn't over, and a signal at one that is up
module _ (trunk : TrunkId) (message : ShakeMsg) (work : Work) where
  verdict_accepted : (p : Progress) (old new : TrunkSide) (send : Option ShakeMsg)
      → IsAccepted (on_verdict p trunk old new message send work)
  verdict_accepted progress.Go old new send = (_, _, refl)
  verdict_accepted _ old new send = (_, _, refl)

  answer_accepted : (p : Progress) (side : TrunkSide) (word : ℕ) → IsAccepted (after_answer p trunk side word message work)
  answer_accepted progress.Go side word = (_, _, refl)
  answer_accepted _ side word = (_, _, refl)

  dialer_accepted : (side : TrunkSide) (state : DialerState) → IsAccepted (dialer_hears trunk side state message work)
  dialer_accepted side state =
      let turn = dialer_turn (identity work.node) side.peer state message in
      verdict_accepted turn.next.progress side (dialer_side side turn.state) turn.next.send

  acceptor_accepted : (side : TrunkSide) (state : AcceptorState) → IsAccepted (acceptor_hears trunk side state message work)
  acceptor_accepted side state =
      let turn = acceptor_turn (identity work.node) side.peer state message 0 in
      verdict_accepted turn.next.progress side (acceptor_side side turn.state) turn.next.send

  pub heard_accepted : (state : State) (side : TrunkSide) → IsAccepted (handshake_at state trunk side message work)
  heard_accepted (AwaitsStatus word) side = dialer_accepted side (DialerState.AwaitsStatus word)
  heard_accepted (AwaitsChallenge word) side = dialer_accepted side (DialerState.AwaitsChallenge word)
  heard_accepted (AwaitsAck word) side = dialer_accepted side (DialerState.AwaitsAck word side.introduction)
  heard_accepted (Asked word) side =
      answer_accepted
      (acceptor_turn (identity work.node) side.peer (AcceptorState.AwaitsAnswer word side.introduction) message 0).next.progress
      side word
  heard_accepted (Accepting word) side = acceptor_accepted side (AcceptorState.AwaitsReply word side.introduction)
  heard_accepted _ side = (_, _, refl)

pub taken_accepted : (trunk : TrunkId) (side : TrunkSide) (item : Item) (work : Work) → IsAccepted (on_up trunk side item work)
taken_accepted trunk side item work = by_test (is_good work.node side item)
  where
    by_test : (good : Bool)
        → IsAccepted (cond good (Accepts (Answer.Took (kind_of item)) (take_item side.peer item work)) (fault Fault.Forged trunk side work))
    by_test true = (_, _, refl)
    by_test false = (_, _, refl)

pub wants_memory : (outcome : Outcome) → IsAccepted outcome → IsRefused outcome Refusal.OutOfMemory
wants_memory outcome (answer, work, is) = lacks outcome answer work is
