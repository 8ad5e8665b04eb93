-- What a side refuses: all where it is over, and else want of memory alone.
use Rattle.std.proofs.Common.{◌≡◌, ℕ, List, Some, true, false, refl}
use Rattle.conn_core.specs.Arrivals.{TakesMemory}
use Rattle.conn_core.specs.Side as table
use Rattle.conn_core.specs.declared.standing.Standing.{Standing}
use Rattle.conn_core.specs.declared.standing.Standing.TheVariants as standing
use Rattle.dist_model.specs.Items.{Handshake, Signalled}
use Rattle.dist_model.specs.Keeping.{IsAccepted}
use Rattle.dist_model.specs.Node.{Node}
use Rattle.dist_model.specs.Sides.{is_over}
use Rattle.dist_model.specs.Work.{at_work}
use Rattle.erl_handshake.specs.declared.acceptor.AcceptorState.TheVariants as acceptor
use Rattle.erl_handshake.specs.declared.dialer.DialerState.TheVariants as dialer
use Rattle.erl_handshake.specs.declared.message.ShakeMsg.{ShakeMsg}
use Rattle.erl_names.specs.declared.trunk.TrunkId.{TrunkId}
use Rattle.node_connections.proofs.Accepted.{heard_accepted, taken_accepted}
use Rattle.node_connections.specs.Coming.{comes}
use Rattle.node_connections.specs.Fronts.{Front, Begins, Holds, IsFrontIn}
use Rattle.node_tables.specs.Standings.{is_settled, standing_side, state_of}

pub over : (st : Standing) (bytes : List ℕ) → is_settled st ≡ true → table.listens (table.state_of st) ≡ false
    → (is_over (state_of st) ≡ true) × IsFrontIn (state_of st) bytes Begins
over (standing.Losing n) bytes h l = (refl, tt)
over standing.Gone bytes h l = (refl, tt)
over (standing.Accepting acceptor.Over) bytes h l = cc
over st bytes h l = cc

pub record Wanted (m : Node) (trunk : TrunkId) (peer : List ℕ) (st : Standing) (bytes : List ℕ) (word : ℕ) : Type 0 where
  pub front : Front
  pub is : IsFrontIn (state_of st) bytes front
  pub accepted : IsAccepted (comes m trunk (Some (standing_side peer st)) front word)

module _ (m : Node) (trunk : TrunkId) (peer : List ℕ) (bytes : List ℕ) (word : ℕ) where
  heard : (st : Standing) (message : ShakeMsg) (n : ℕ) → IsFrontIn (state_of st) bytes (Holds (Handshake message) n)
      → IsAccepted (comes m trunk (Some (standing_side peer st)) (Holds (Handshake message) n) word)
      → Wanted m trunk peer st bytes word
  heard st message n is accepted = record { front = Holds (Handshake message) n; is = is; accepted = accepted }

  pub wanted : (st : Standing) → is_settled st ≡ true → TakesMemory st bytes → Wanted m trunk peer st bytes word
  wanted (standing.Dialing (dialer.AwaitsStatus w)) h (message, n, due) =
      let st = standing.Dialing (dialer.AwaitsStatus w) in
      heard st message n due (heard_accepted trunk message (at_work m) (state_of st) (standing_side peer st))
  wanted (standing.Dialing (dialer.AwaitsChallenge w)) h (message, n, due) =
      let st = standing.Dialing (dialer.AwaitsChallenge w) in
      heard st message n due (heard_accepted trunk message (at_work m) (state_of st) (standing_side peer st))
  wanted (standing.Dialing (dialer.AwaitsAck w c)) h (message, n, due) =
      let st = standing.Dialing (dialer.AwaitsAck w c) in
      heard st message n due (heard_accepted trunk message (at_work m) (state_of st) (standing_side peer st))
  wanted (standing.Accepting (acceptor.AwaitsAnswer w c)) h (message, n, due) =
      let st = standing.Accepting (acceptor.AwaitsAnswer w c) in
      heard st message n due (heard_accepted trunk message (at_work m) (state_of st) (standing_side peer st))
  wanted (standing.Accepting (acceptor.AwaitsTurn w c)) h (message, n, due) =
      let st = standing.Accepting (acceptor.AwaitsTurn w c) in
      heard st message n due (heard_accepted trunk message (at_work m) (state_of st) (standing_side peer st))
  wanted (standing.Accepting (acceptor.AwaitsReply w c)) h (message, n, due) =
      let st = standing.Accepting (acceptor.AwaitsReply w c) in
      heard st message n due (heard_accepted trunk message (at_work m) (state_of st) (standing_side peer st))
  wanted (standing.Up c) h (signal, n, due) =
      record {
        front = Holds (Signalled signal false) n;
        is = due;
        accepted = taken_accepted trunk (standing_side peer (standing.Up c)) (Signalled signal false) (at_work m);
      }
  wanted (standing.Losing c) h x = absurd x
  wanted standing.Gone h x = absurd x
  wanted st h x = cc
