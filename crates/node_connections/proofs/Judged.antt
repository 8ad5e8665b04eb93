-- What a side has judged the bytes to be, as their front.
use Rattle.std.proofs.Common.{◌≡◌, inl, inr, ℕ, List, Some, None, Ok, true, false, refl, ap, sym, subst, ◌∙◌}
use Rattle.conn_core.specs.Arrivals.{ArrivalDue, DueAt, FrameDue, MessageDue}
use Rattle.conn_core.specs.Side.{breaks, on_item, on_message}
use Rattle.conn_core.specs.declared.arrival.Arrival.{Arrival}
use Rattle.conn_core.specs.declared.arrival.Fault.{Fault}
use Rattle.conn_core.specs.declared.side.Side.{Side}
use Rattle.conn_core.specs.declared.standing.Standing.{Standing}
use Rattle.conn_core.specs.declared.standing.Standing.TheVariants as standing
use Rattle.dist_model.specs.Items.{Handshake}
use Rattle.dist_model.specs.Sides.{Up, is_over}
use Rattle.erl_control.specs.declared.signal.Item.{Item}
use Rattle.erl_control.specs.declared.signal.Item.TheVariants as frame
use Rattle.erl_handshake.specs.declared.acceptor.AcceptorState.TheVariants as acceptor
use Rattle.erl_handshake.specs.declared.dialer.DialerState.TheVariants as dialer
use Rattle.erl_handshake.specs.declared.fault.ShakeFault.{ShakeFault}
use Rattle.erl_handshake.specs.declared.identity.Identity.{Identity}
use Rattle.erl_control.specs.Answer.{IsFrameDue}
use Rattle.erl_handshake.specs.declared.message.Role.{Role}
use Rattle.erl_handshake.specs.declared.message.Role.TheVariants as role
use Rattle.erl_handshake.specs.declared.message.ShakeMsg.{ShakeMsg}
use Rattle.node_connections.specs.Coming.{item_of}
use Rattle.node_connections.specs.Fronts.{Front, Begins, Holds, Spoils, IsFrameFront, IsFrontIn, IsMessageFront}
use Rattle.node_tables.specs.Standings.{is_settled, state_of}
use Rattle.erl_handshake.specs.declared.introduction.Introduction.{Introduction}

-- a message of the handshake, the item of a frame, or neither
pub data Judged (own : Identity) (peer : List ℕ) (st : Standing) (bytes : List ℕ) (word : ℕ) (arrival : Arrival) : Type 0 where
  IsMessage : (message : ShakeMsg) → (len : ℕ) → IsFrontIn (state_of st) bytes (Holds (Handshake message) len)
      → is_over (state_of st) ≡ false
      → arrival ≡ on_message own peer st message word len → Judged own peer st bytes word arrival
  IsItem : (item : Item) → (len : ℕ) → IsFrontIn (state_of st) bytes (Holds (item_of item) len)
      → state_of st ≡ Up → arrival ≡ on_item st item len → Judged own peer st bytes word arrival
  IsBroken : (why : Fault) → IsFrontIn (state_of st) bytes (Spoils why) → is_over (state_of st) ≡ false
      → arrival ≡ breaks st why → Judged own peer st bytes word arrival

abbrev pub bad : Fault
bad = Fault.Shake ShakeFault.BadMessage

frame_front : (bytes : List ℕ) (item : Item) (len : ℕ) → IsFrameDue bytes (Ok (Some (item, len)))
    → IsFrameFront bytes (Holds (item_of item) len)
frame_front bytes (frame.Signal signal) len d = d
frame_front bytes frame.Tick len d = d

module _ (own : Identity) (side : Side) (bytes : List ℕ) (word : ℕ) where
  at_standing : (st : Standing) (front : Front) → side.standing ≡ st → IsFrontIn (state_of st) bytes front
      → IsFrontIn (state_of side.standing) bytes front
  at_standing st front e x = subst (λ s. IsFrontIn (state_of s) bytes front) (sym e) x

  of_message : (reader : Role) (arrival : Arrival) → is_over (state_of side.standing) ≡ false
      → ((front : Front) → IsMessageFront reader bytes front → IsFrontIn (state_of side.standing) bytes front)
      → MessageDue reader own side bytes word (Some arrival) → Judged own side.peer side.standing bytes word arrival
  of_message reader arrival over reads (inl x) = IsMessage x.0 x.1 (reads (Holds (Handshake x.0) x.1) x.2) over x.3
  of_message reader arrival over reads (inr x) = IsBroken bad (reads (Spoils bad) x.0) over x.1

  of_frame : (introduction : Introduction) (arrival : Arrival) → side.standing ≡ standing.Up introduction
      → FrameDue (standing.Up introduction) bytes (Some arrival)
      → Judged own side.peer side.standing bytes word arrival
  of_frame introduction arrival e (inl x) =
      IsItem x.0 x.1 (at_standing (standing.Up introduction) (Holds (item_of x.0) x.1) e (frame_front bytes x.0 x.1 x.2)) (ap state_of e)
      (x.3 ∙ ap (λ s. on_item s x.0 x.1) (sym e))
  of_frame introduction arrival e (inr x) =
      IsBroken (Fault.Frame x.0) (at_standing (standing.Up introduction) (Spoils (Fault.Frame x.0)) e x.1)
      (ap (λ s. is_over (state_of s)) e) (x.2 ∙ ap (λ s. breaks s (Fault.Frame x.0)) (sym e))

  by_standing : (st : Standing) (arrival : Arrival) → side.standing ≡ st → is_settled st ≡ true
      → DueAt st own side bytes word (Some arrival)
      → Judged own side.peer side.standing bytes word arrival
  by_standing (standing.Dialing (dialer.AwaitsStatus w)) arrival e h d =
      of_message role.Dialer arrival (ap (λ s. is_over (state_of s)) e)
      (λ front x. at_standing (standing.Dialing (dialer.AwaitsStatus w)) front e x) d
  by_standing (standing.Dialing (dialer.AwaitsChallenge w)) arrival e h d =
      of_message role.Dialer arrival (ap (λ s. is_over (state_of s)) e)
      (λ front x. at_standing (standing.Dialing (dialer.AwaitsChallenge w)) front e x) d
  by_standing (standing.Dialing (dialer.AwaitsAck w n)) arrival e h d =
      of_message role.Dialer arrival (ap (λ s. is_over (state_of s)) e)
      (λ front x. at_standing (standing.Dialing (dialer.AwaitsAck w n)) front e x) d
  by_standing (standing.Accepting (acceptor.AwaitsAnswer w n)) arrival e h d =
      of_message role.Acceptor arrival (ap (λ s. is_over (state_of s)) e)
      (λ front x. at_standing (standing.Accepting (acceptor.AwaitsAnswer w n)) front e x) d
  by_standing (standing.Accepting (acceptor.AwaitsTurn w n)) arrival e h d =
      of_message role.Acceptor arrival (ap (λ s. is_over (state_of s)) e)
      (λ front x. at_standing (standing.Accepting (acceptor.AwaitsTurn w n)) front e x) d
  by_standing (standing.Accepting (acceptor.AwaitsReply w n)) arrival e h d =
      of_message role.Acceptor arrival (ap (λ s. is_over (state_of s)) e)
      (λ front x. at_standing (standing.Accepting (acceptor.AwaitsReply w n)) front e x) d
  by_standing (standing.Up introduction) arrival e h d = of_frame introduction arrival e d
  by_standing (standing.Losing introduction) arrival e h d = absurd d
  by_standing standing.Gone arrival e h d = absurd d
  by_standing st arrival e h d = cc

  pub judged : (arrival : Arrival) → is_settled side.standing ≡ true → ArrivalDue own side bytes word (Some arrival)
      → Judged own side.peer side.standing bytes word arrival
  judged arrival h d = by_standing side.standing arrival refl h d

  -- more bytes are needed
  begun_at : (st : Standing) → is_settled st ≡ true → DueAt st own side bytes word None → IsFrontIn (state_of st) bytes Begins
  begun_at (standing.Dialing (dialer.Done n)) h d = cc
  begun_at (standing.Dialing dialer.Over) h d = cc
  begun_at (standing.Accepting acceptor.AwaitsName) h d = cc
  begun_at (standing.Accepting (acceptor.AwaitsAdmission w n)) h d = cc
  begun_at (standing.Accepting (acceptor.Done n)) h d = cc
  begun_at (standing.Accepting acceptor.Over) h d = cc
  begun_at (standing.Losing introduction) h d = absurd d
  begun_at standing.Gone h d = absurd d
  begun_at st h d = d

  pub begun : is_settled side.standing ≡ true → ArrivalDue own side bytes word None → IsFrontIn (state_of side.standing) bytes Begins
  begun h d = begun_at side.standing h d
