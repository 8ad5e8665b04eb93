-- The creations and flags that nodes tell each other, and those that a side knows of its peer.
-- (ERTS User's Guide, Distribution Protocol, Distribution Handshake, send_name and send_challenge.)
use Rattle.std.specs.Prelude.{Option, None, Some, Bool, true, false, not}
use Rattle.dist_model.specs.Handshake.{introduces}
use Rattle.dist_model.specs.Items.{Handshake, Item}
use Rattle.dist_model.specs.Names.{Name}
use Rattle.dist_model.specs.Seen.{seen}
use Rattle.dist_model.specs.Sides.{AwaitsChallenge, AwaitsStatus, Gone, State, is_gone}
use Rattle.dist_model.specs.World.{World, node_of}
use Rattle.erl_handshake.specs.Roles.{introduction_by}
use Rattle.erl_handshake.specs.declared.introduction.Introduction.{Introduction}
use Rattle.erl_handshake.specs.declared.message.ShakeMsg.{ShakeMsg}

-- the creation and the flags of its sender that an item carries
abbrev pub told_by : Item → Option Introduction
told_by (Handshake (ShakeMsg.SendName flags creation name)) = Some (introduction_by creation flags)
told_by (Handshake (ShakeMsg.Challenge flags word creation name)) = Some (introduction_by creation flags)
told_by _ = None

-- the states in which a side knows its peer's creation and flags. A side that is gone has dropped them
abbrev pub knows_peer : State → Bool
knows_peer (AwaitsStatus w) = false
knows_peer (AwaitsChallenge w) = false
knows_peer Gone = false
knows_peer _ = true

abbrev pub goes_on : State → Bool
goes_on state = not (is_gone state)

-- the creation of the node's running incarnation, and the flags that the node offers
abbrev pub introduced : World → Name → Option Introduction
introduced world name = seen (node_of world.nodes name) None (λ node. Some (introduces node))
