-- The changes of the sides.
use Rattle.std.specs.Prelude.{◌≡◌, ℕ, Bool, true, false, Option, None, Some}
use Rattle.std.specs.FinMap as fm
use Rattle.std.specs.FinMap.{FinMap}
use Rattle.std.specs.Option.{option_map}
use Rattle.conn_core.specs.declared.standing.Standing.{Standing}
use Rattle.conn_core.specs.declared.standing.Standing.TheVariants.{Up}
use Rattle.dist_model.specs.Names.{Name}
use Rattle.dist_model.specs.Sides.{TrunkSide, is_gone, is_up}
use Rattle.erl_names.specs.Order.{trunk_cmp}
use Rattle.erl_names.specs.declared.trunk.TrunkId.{TrunkId}
use Rattle.node_tables.specs.Standings.{is_settled, side_of, standing_side, state_of}
use Rattle.node_tables.specs.Sides.{HasRouteRoom, HasSideRoom, sides}
use Rattle.node_tables.specs.declared.sides.Sides.{Sides}
use Rattle.node_tables.specs.declared.change.SideChange.{SideChange}
use Rattle.node_tables.specs.declared.change.SideChange.TheVariants.{Adds, Stands, ComesUp}

abbrev pub stood_at : FinMap trunk_cmp TrunkSide → TrunkId → Standing → Option TrunkSide → FinMap trunk_cmp TrunkSide
stood_at sides trunk standing None = sides
stood_at sides trunk standing (Some side) = fm.insert sides trunk (standing_side side.peer standing)

-- the side that is there stands so, if there is one
abbrev pub stood : FinMap trunk_cmp TrunkSide → TrunkId → Standing → FinMap trunk_cmp TrunkSide
stood sides trunk standing = stood_at sides trunk standing (fm.get sides trunk)

abbrev pub side_changed : SideChange → FinMap trunk_cmp TrunkSide → FinMap trunk_cmp TrunkSide
side_changed (Adds side) sides = fm.insert sides side.trunk (side_of side)
side_changed (Stands trunk standing) sides = stood sides trunk standing
side_changed (ComesUp trunk peer introduction) sides = stood sides trunk (Up introduction)

-- ---- the changes that can be made

-- a node keeps sides that stand so, and such a one isn't up
abbrev pub IsDown : Standing → Type 0
IsDown standing = (is_settled standing ≡ true) × (is_up (state_of standing) ≡ false)

abbrev pub IsTowards : Name → Option TrunkSide → Type 0
IsTowards peer side = option_map (λ (s : TrunkSide). s.peer) side ≡ Some peer

-- but for this trunk none is up towards the peer
abbrev pub NoOtherUp : FinMap trunk_cmp TrunkSide → TrunkId → Name → Type 0
NoOtherUp sides trunk peer =
    (other : TrunkId) (side : TrunkSide) → fm.get sides other ≡ Some side → side.peer ≡ peer → is_up side.state ≡ true → other ≡ trunk

abbrev pub is_gone_in : Option TrunkSide → Bool
is_gone_in None = false
is_gone_in (Some side) = is_gone side.state

-- a side that is gone stays gone
abbrev pub StaysGone : Standing → Option TrunkSide → Type 0
StaysGone standing side = is_gone_in side ≡ true → is_gone (state_of standing) ≡ true

abbrev pub SideFits : SideChange → Sides → Type 0
SideFits (Adds side) it = (fm.get (sides it) side.trunk ≡ None) × IsDown side.standing × HasSideRoom 1 it
SideFits (Stands trunk standing) it = IsDown standing × StaysGone standing (fm.get (sides it) trunk)
SideFits (ComesUp trunk peer introduction) it =
    IsTowards peer (fm.get (sides it) trunk) × NoOtherUp (sides it) trunk peer × (is_gone_in (fm.get (sides it) trunk) ≡ false)
    × HasRouteRoom 1 it

-- ---- the room that they take

abbrev pub sides_added : SideChange → ℕ
sides_added (Adds side) = 1
sides_added (Stands trunk standing) = 0
sides_added (ComesUp trunk peer introduction) = 0

abbrev pub routes_added : SideChange → ℕ
routes_added (Adds side) = 0
routes_added (Stands trunk standing) = 0
routes_added (ComesUp trunk peer introduction) = 1
