-- The state in which a side waits, with its own challenge and the peer's introduction.
-- (ERTS User's Guide, Distribution Protocol, Distribution Handshake.)
use Rattle.std.specs.Prelude.{ℕ, Option, Some, None}
use Rattle.conn_core.specs.declared.standing.Standing.{Standing}
use Rattle.conn_core.specs.declared.standing.Standing.TheVariants.{Accepting}
use Rattle.erl_handshake.specs.declared.acceptor.AcceptorState.TheVariants.{AwaitsAdmission, AwaitsAnswer, AwaitsTurn}
use Rattle.erl_handshake.specs.declared.introduction.Introduction.{Introduction}

-- it has asked the dialer whether it goes on
abbrev pub asked_in : Standing → Option (ℕ × Introduction)
asked_in (Accepting (AwaitsAnswer challenge introduction)) = Some (challenge, introduction)
asked_in _ = None

-- it waits for an older connection's end
abbrev pub parked_in : Standing → Option (ℕ × Introduction)
parked_in (Accepting (AwaitsTurn challenge introduction)) = Some (challenge, introduction)
parked_in _ = None

-- the dialer has named itself
abbrev pub named_in : Standing → Option (ℕ × Introduction)
named_in (Accepting (AwaitsAdmission challenge introduction)) = Some (challenge, introduction)
named_in _ = None
