use Rattle.std.proofs.Common.{◌≡◌, ℕ, List, true}
use Rattle.readers.specs.Reading.{AreBytes}
use Rattle.erl_handshake.specs.declared.message.Role.{Role}
use Rattle.erl_handshake.specs.declared.message.Role.TheVariants as role
use Rattle.erl_handshake.specs.declared.identity.Identity.{Identity}
use Rattle.conn_core.specs.declared.standing.Standing.{Standing}
use Rattle.conn_core.specs.declared.standing.Standing.TheVariants.{Dialing, Accepting, Up, Losing, Gone}
use Rattle.conn_core.specs.declared.side.Side.{Side}
use Rattle.conn_core.specs.Side.{state_of, listens}
use Rattle.conn_core.specs.Arrivals.{MessageDue, DueAt}
use Rattle.conn_core.proofs.OneArrival.{One, one_message, one_frame}
use Rattle.conn_core.proofs.laws.one_arrival.Goals as goal

pub returns : goal.returns
returns c = λ own side bytes word h l. at own side bytes word h side.standing l
  where
    shakes : (reader : Role) (own : Identity) (side : Side) (bytes : List ℕ) (word : ℕ) → AreBytes bytes
        → One (MessageDue reader own side bytes word)
    shakes reader own side bytes word h =
        let read = c.one_answer.ensures.due reader bytes h in
        one_message reader own side bytes word read.0 read.1 (λ other d. c.one_answer.ensures.once reader bytes other read.0 d read.1)

    at : (own : Identity) (side : Side) (bytes : List ℕ) (word : ℕ) → AreBytes bytes → (standing : Standing)
        → listens (state_of standing) ≡ true → One (DueAt standing own side bytes word)
    at own side bytes word h (Dialing d) l = shakes role.Dialer own side bytes word h
    at own side bytes word h (Accepting a) l = shakes role.Acceptor own side bytes word h
    at own side bytes word h (Up introduction) l =
        let read = c.one_answer-2.ensures bytes h in
        one_frame (Up introduction) bytes read.0 read.1 read.2
    at own side bytes word h (Losing introduction) l = cc
    at own side bytes word h Gone l = cc
