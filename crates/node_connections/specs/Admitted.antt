-- A side that comes once a dialer has named itself, and what is done at it.
-- (ERTS User's Guide, Distribution Protocol, Distribution Handshake, the status message.)
use Rattle.std.specs.Prelude.{ℕ, Bool, true, false}
use Rattle.conn_core.specs.declared.side.Side.{Side}
use Rattle.dist_model.specs.Admission.{give_up_if, stands_after}
use Rattle.dist_model.specs.Handshake.{write}
use Rattle.dist_model.specs.Sides.{Gone, TrunkSide, is_dialing, is_waiting}
use Rattle.dist_model.specs.Work.{Work}
use Rattle.erl_handshake.specs.declared.admission.Admission.{Admission}
use Rattle.erl_handshake.specs.declared.message.ShakeMsg.{ShakeMsg}
use Rattle.erl_handshake.specs.declared.status.Status.{Status}
use Rattle.erl_handshake.specs.declared.introduction.Introduction.{Introduction}

-- of a dialer that named this creation and these flags
abbrev pub named_side : Side → Introduction → TrunkSide
named_side side introduction = record { peer = side.peer; introduction = introduction; state = Gone }

-- the challenge is sent at once
abbrev pub sends_challenge : Status → Bool
sends_challenge Status.Ok = true
sends_challenge Status.OkSimultaneous = true
sends_challenge _ = false

-- which others end, what the dialer is told, and how the side stands
abbrev pub admitted_by : Admission → Side → (challenge : ℕ) → Introduction → Work → Work
admitted_by due side challenge introduction work =
    stands_after due.status side.trunk (named_side side introduction) challenge
    (write side.trunk side.peer (ShakeMsg.Status due.status)
    (give_up_if due.ends_dialing is_dialing side.trunk.dialer
    (give_up_if due.ends_waiting is_waiting side.trunk.dialer work)))
