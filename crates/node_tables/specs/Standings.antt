-- The model's states of sides, and the map that a list of sides stands for.
use Rattle.std.specs.Prelude.{◌≡◌, ℕ, Bool, true, false, not, ◌&&◌, List, [], ◌∷◌, map, position, Option, None, Some, unwrap_or}
use Rattle.std.specs.FinMap.{find}
use Rattle.std.specs.Ordering.{eq_by_cmp}
use Rattle.conn_core.specs.Side.{peer_introduction}
use Rattle.conn_core.specs.declared.side.Side.{Side}
use Rattle.conn_core.specs.declared.standing.Standing.{Standing}
use Rattle.conn_core.specs.declared.standing.Standing.TheVariants.{Dialing, Accepting, Up, Losing, Gone}
use Rattle.dist_model.specs.Names.{Name, same_name}
use Rattle.dist_model.specs.Sides.{State, TrunkSide, untold, is_gone, is_losing, is_up}
use Rattle.dist_model.specs.Sides as model
use Rattle.erl_handshake.specs.declared.acceptor.AcceptorState.TheVariants as acceptor
use Rattle.erl_handshake.specs.declared.dialer.DialerState.TheVariants as dialer
use Rattle.erl_names.specs.Order.{name_cmp, trunk_cmp}
use Rattle.erl_names.specs.declared.trunk.TrunkId.{TrunkId}

-- a node keeps no side that isn't answered yet, and one whose handshake is done or over is up or gone
abbrev pub state_of : Standing → State
state_of (Dialing (dialer.AwaitsStatus word)) = model.AwaitsStatus word
state_of (Dialing (dialer.AwaitsChallenge word)) = model.AwaitsChallenge word
state_of (Dialing (dialer.AwaitsAck word introduction)) = model.AwaitsAck word
state_of (Dialing (dialer.Done introduction)) = model.Gone
state_of (Dialing dialer.Over) = model.Gone
state_of (Accepting acceptor.AwaitsName) = model.Gone
state_of (Accepting (acceptor.AwaitsAdmission word introduction)) = model.Gone
state_of (Accepting (acceptor.AwaitsAnswer word introduction)) = model.Asked word
state_of (Accepting (acceptor.AwaitsTurn word introduction)) = model.Parked word
state_of (Accepting (acceptor.AwaitsReply word introduction)) = model.Accepting word
state_of (Accepting (acceptor.Done introduction)) = model.Gone
state_of (Accepting acceptor.Over) = model.Gone
state_of (Up introduction) = model.Up
state_of (Losing introduction) = model.Losing
state_of Gone = model.Gone

-- of those that a node keeps
abbrev pub is_settled : Standing → Bool
is_settled (Dialing (dialer.AwaitsStatus word)) = true
is_settled (Dialing (dialer.AwaitsChallenge word)) = true
is_settled (Dialing (dialer.AwaitsAck word introduction)) = true
is_settled (Dialing (dialer.Done introduction)) = false
is_settled (Dialing dialer.Over) = false
is_settled (Accepting acceptor.AwaitsName) = false
is_settled (Accepting (acceptor.AwaitsAdmission word introduction)) = false
is_settled (Accepting (acceptor.AwaitsAnswer word introduction)) = true
is_settled (Accepting (acceptor.AwaitsTurn word introduction)) = true
is_settled (Accepting (acceptor.AwaitsReply word introduction)) = true
is_settled (Accepting (acceptor.Done introduction)) = false
is_settled (Accepting acceptor.Over) = false
is_settled (Up introduction) = true
is_settled (Losing introduction) = true
is_settled Gone = true

-- a side that stands so towards a peer. Before the peer has told its creation and flags, they are 0
abbrev pub standing_side : Name → Standing → TrunkSide
standing_side peer standing = record { peer = peer; introduction = unwrap_or (peer_introduction standing) untold; state = state_of standing }

abbrev pub side_of : Side → TrunkSide
side_of side = standing_side side.peer side.standing

-- ---- those that lie in memory

abbrev pub entry_of : Side → TrunkId × TrunkSide
entry_of side = (side.trunk, side_of side)

abbrev pub entries_of : List Side → List (TrunkId × TrunkSide)
entries_of = map entry_of

-- there is a connection, or an attempt at one
abbrev pub is_open : Side → Bool
is_open side = not (is_gone (state_of side.standing))

abbrev pub all_open : List Side → Bool
all_open [] = true
all_open (side ∷ rest) = is_open side && all_open rest

-- ---- the first that is lost and isn't cleared away yet

abbrev pub is_lost : Side → Bool
is_lost side = is_losing (state_of side.standing)

abbrev pub lost_place : List Side → Option ℕ
lost_place = position is_lost

-- ---- the routes: exactly the sides that are up

abbrev pub leads_to : TrunkId → Option TrunkId → Bool
leads_to trunk None = false
leads_to trunk (Some route) = eq_by_cmp trunk_cmp trunk route

abbrev pub is_up_to : Name → Option TrunkSide → Bool
is_up_to peer None = false
is_up_to peer (Some side) = same_name side.peer peer && is_up side.state

abbrev pub AreRouted : List (Name × TrunkId) → List Side → Type 0
AreRouted routes held =
    (peer : Name) (trunk : TrunkId) → leads_to trunk (find name_cmp peer routes) ≡ is_up_to peer (find trunk_cmp trunk (entries_of held))
