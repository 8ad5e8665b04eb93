-- The sides of a trunk: what each of two nodes holds of their connection, or of an attempt at one.
-- (ERTS User's Guide, Distribution Protocol, Distribution Handshake.)
use Rattle.std.specs.Prelude.{ℕ, Bool, true, false, ◌||◌}
use Rattle.dist_model.specs.Names.{Name}
use Rattle.erl_handshake.specs.declared.introduction.Introduction.{Introduction}
use Rattle.erl_names.specs.declared.trunk.TrunkId.{TrunkId}

-- the dialer's side awaits the status, the challenge and the acknowledgement. The acceptor's has asked for a
-- status, waits for an older connection's end, or has sent its challenge. A side keeps its own challenge
pub data State : Type 0 where
  AwaitsStatus : (word : ℕ) → State
  AwaitsChallenge : (word : ℕ) → State
  AwaitsAck : (word : ℕ) → State
  Asked : (word : ℕ) → State
  Parked : (word : ℕ) → State
  Accepting : (word : ℕ) → State
  Up : State
  -- the connection is lost, and records of processes beyond it are left
  Losing : State
  Gone : State

pub record TrunkSide : Type 0 where
  pub peer : Name
  -- the creation and the flags that the peer has told
  pub introduction : Introduction
  pub state : State

abbrev pub is_dialing : State → Bool
is_dialing (AwaitsStatus w) = true
is_dialing (AwaitsChallenge w) = true
is_dialing (AwaitsAck w) = true
is_dialing _ = false

-- of an attempt that was dialed by the peer
abbrev pub is_waiting : State → Bool
is_waiting (Asked w) = true
is_waiting (Parked w) = true
is_waiting (Accepting w) = true
is_waiting _ = false

abbrev pub is_parked : State → Bool
is_parked (Parked w) = true
is_parked _ = false

abbrev pub is_up : State → Bool
is_up Up = true
is_up _ = false

abbrev pub is_losing : State → Bool
is_losing Losing = true
is_losing _ = false

abbrev pub is_gone : State → Bool
is_gone Gone = true
is_gone _ = false

-- towards its peer there may be records
abbrev pub holds : State → Bool
holds state = is_up state || is_losing state

-- what comes to it isn't taken any more
abbrev pub is_over : State → Bool
is_over state = is_losing state || is_gone state

-- a side that is up waits for its records to be swept, and any other is gone at once
abbrev pub lost : State → State
lost Up = Losing
lost Losing = Losing
lost _ = Gone

-- a peer that has told nothing
abbrev pub untold : Introduction
untold = record { creation = 0; flags = 0 }

-- a side that is gone has forgotten the peer's creation and flags
abbrev pub introduction_in : State → Introduction → Introduction
introduction_in Gone introduction = untold
introduction_in _ introduction = introduction

abbrev pub in_state : State → TrunkSide → TrunkSide
in_state state side = record side { introduction = introduction_in state side.introduction; state = state }

-- before anything has come from its dialer. A node keeps no such side
abbrev pub unheard : TrunkId → TrunkSide
unheard trunk = record { peer = trunk.dialer; introduction = untold; state = Gone }
