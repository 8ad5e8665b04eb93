-- Two sides of one connection, each of which takes the bytes that the other sends, from the first message
-- to the last.
-- (ERTS User's Guide, Distribution Protocol, Distribution Handshake.)
use Rattle.std.specs.Prelude.{◌≡◌, ℕ, true, Option, Some, None}
use Rattle.erl_names.specs.declared.trunk.TrunkId.{TrunkId}
use Rattle.erl_handshake.specs.declared.message.ShakeMsg.{ShakeMsg}
use Rattle.erl_handshake.specs.declared.message.ShakeMsg.TheVariants.{Status}
use Rattle.erl_handshake.specs.declared.identity.Identity.{Identity}
use Rattle.erl_handshake.specs.Flags.{has_all_of, mandatory}
use Rattle.erl_handshake.specs.Messages.{HasFields, written}
use Rattle.erl_handshake.specs.Roles.{send_name, challenge_of}
use Rattle.erl_handshake.specs.Admission.{admission}
use Rattle.erl_handshake.specs.Exchange.{nothing_else}
use Rattle.conn_core.specs.declared.standing.Standing.{Standing}
use Rattle.conn_core.specs.declared.side.Side.{Side}
use Rattle.conn_core.specs.declared.arrival.Taken.TheVariants.{Message}
use Rattle.conn_core.specs.Side.{admitted_at, gone_on, challenge_at}
use Rattle.conn_core.specs.Arrivals.{ArrivalDue}
use Rattle.conn_core.specs.Happenings.{dialed, unheard}

-- a node whose name, creation and flags fit a message, and that offers the mandatory flags
pub record CanConnect (node : Identity) : Type 0 where
  pub fits : HasFields (send_name node)
  pub offers : has_all_of node.flags mandatory ≡ true

-- a side takes the bytes of a message, stands so after them, and sends this back
pub record Takes (own : Identity) (side : Side) (word : ℕ) (message : ShakeMsg) (after : Standing) (send : Option ShakeMsg) : Type 0 where
  pub len : ℕ
  pub due : ArrivalDue own side (written message) word (Some (record { standing = after; was = Message message send; len = len }))

-- the sides of the connection that one node dials under this count
abbrev pub connection : Identity → (count : ℕ) → TrunkId
connection dialing count = record { dialer = dialing.name; count = count }

abbrev pub dialer_at : (dialing accepting : Identity) → (count : ℕ) → Standing → Side
dialer_at dialing accepting count standing = record { trunk = connection dialing count; peer = accepting.name; standing = standing }

abbrev pub acceptor_at : (dialing : Identity) → (count : ℕ) → Standing → Side
acceptor_at dialing count standing = record { trunk = connection dialing count; peer = dialing.name; standing = standing }

-- the acceptor decides on the attempt, with nothing else between the nodes
abbrev pub decided : (dialing accepting : Identity) → (count : ℕ) → Standing → Standing
decided dialing accepting count standing = admitted_at accepting.name (connection dialing count) standing nothing_else

-- the messages in their order; the word is the acceptor's challenge
pub record Meeting (dialing accepting : Identity) (count challenge word : ℕ) (dialer acceptor : Standing) : Type 0 where
  pub named : Standing
  pub told : Standing
  pub replied : Standing
  pub reply : ShakeMsg
  pub acknowledgement : ShakeMsg
  pub hears_name : Takes accepting (unheard (connection dialing count)) word (send_name dialing) named None
  pub hears_status : Takes dialing (dialed (connection dialing count) accepting.name challenge) word
      (Status (admission dialing.name accepting.name count nothing_else).status) told None
  pub hears_challenge : Takes dialing (dialer_at dialing accepting count told) word
      (challenge_of accepting (challenge_at (decided dialing accepting count named))) replied (Some reply)
  pub hears_reply : Takes accepting
      (acceptor_at dialing count (gone_on (decided dialing accepting count named))) word reply acceptor (Some acknowledgement)
  pub hears_acknowledgement : Takes dialing (dialer_at dialing accepting count replied) word acknowledgement dialer None
