-- What can happen to a side, in any order, and how it stands after that.
-- (ERTS User's Guide, Distribution Protocol, Distribution Handshake.)
use Rattle.std.specs.Prelude.{ℕ, if◌then◌else◌, List, [], ◌∷◌, Contains}
use Rattle.erl_names.specs.declared.trunk.TrunkId.{TrunkId}
use Rattle.erl_control.specs.declared.signal.Item.{Item}
use Rattle.erl_control.specs.declared.error.FrameFault.{FrameFault}
use Rattle.erl_handshake.specs.declared.message.ShakeMsg.{ShakeMsg}
use Rattle.erl_handshake.specs.declared.message.ShakeMsg.TheVariants.{SendName, ChallengeReply, ChallengeAck}
use Rattle.erl_handshake.specs.declared.identity.Identity.{Identity}
use Rattle.erl_handshake.specs.declared.admission.OtherConnections.{OtherConnections}
use Rattle.erl_handshake.specs.declared.dialer.DialerState.TheVariants as dialer
use Rattle.erl_handshake.specs.declared.acceptor.AcceptorState.TheVariants as acceptor
use Rattle.erl_handshake.specs.Digest.{digest_of}
use Rattle.conn_core.specs.declared.standing.Standing.{Standing}
use Rattle.conn_core.specs.declared.standing.Standing.TheVariants.{Dialing, Accepting, Gone}
use Rattle.conn_core.specs.declared.side.Side.{Side}
use Rattle.conn_core.specs.Side.{on_message, on_no_message, on_item, on_no_frame, admitted_at, gone_on, lost, is_live, state_of}

pub data Happening : Type 0 where
  -- a message of the handshake comes, with the event's word, or bytes that are none
  Message : ShakeMsg → (word : ℕ) → Happening
  NoMessage : Happening
  -- a frame comes, or bytes that are none
  Frame : Item → Happening
  NoFrame : FrameFault → Happening
  -- the node decides on the attempt, lets the challenge be sent, loses the connection, clears it away
  Admit : OtherConnections → Happening
  GoOn : Happening
  Lose : Happening
  Close : Happening

-- at a node that says this of itself
abbrev pub standing_after : Identity → Side → Happening → Standing
standing_after own side (Message message word) = (on_message own side.peer side.standing message word 0).standing
standing_after own side NoMessage = (on_no_message side.standing).standing
standing_after own side (Frame item) = (on_item side.standing item 0).standing
standing_after own side (NoFrame why) = (on_no_frame side.standing why).standing
standing_after own side (Admit others) = admitted_at own.name side.trunk side.standing others
standing_after own side GoOn = gone_on side.standing
standing_after own side Lose = if is_live (state_of side.standing) then lost side.standing else side.standing
standing_after own side Close = Gone

abbrev pub after : Identity → List Happening → Side → Side
after own [] side = side
after own (happening ∷ more) side = after own more (record side { standing = standing_after own side happening })

-- ---- where a side begins

abbrev pub dialed : TrunkId → (peer : List ℕ) → (challenge : ℕ) → Side
dialed trunk peer challenge = record { trunk = trunk; peer = peer; standing = Dialing (dialer.AwaitsStatus challenge) }

abbrev pub unheard : TrunkId → Side
unheard trunk = record { trunk = trunk; peer = trunk.dialer; standing = Accepting acceptor.AwaitsName }

-- ---- what shows that the peer knows the cookie

-- the acceptor has acknowledged the dialer's challenge
pub record IsAcknowledged (own : Identity) (challenge : ℕ) (happenings : List Happening) : Type 0 where
  pub word : ℕ
  pub came : Contains happenings (Message (ChallengeAck (digest_of own.cookie challenge)) word)

-- the dialer gave its name, the word of that event became the challenge, and the dialer has replied to it
pub record IsNamed (peer : List ℕ) (challenge : ℕ) (happenings : List Happening) : Type 0 where
  pub flags : ℕ
  pub creation : ℕ
  pub came : Contains happenings (Message (SendName flags creation peer) challenge)

pub record IsReplied (own : Identity) (peer : List ℕ) (happenings : List Happening) : Type 0 where
  pub challenge : ℕ
  pub named : IsNamed peer challenge happenings
  pub theirs : ℕ
  pub word : ℕ
  pub came : Contains happenings (Message (ChallengeReply theirs (digest_of own.cookie challenge)) word)
