-- The connections on which something comes to a node from its peers.
-- (ERTS User's Guide, Distribution Protocol; Reference Manual, Processes, Delivery of Signals.)
use Rattle.std.specs.Prelude.{Option, None, Some, is_some, Bool, true, not, ◌&&◌}
use Rattle.std.specs.FinMap as fm
use Rattle.std.specs.Option.{option_map}
use Rattle.dist_model.specs.Names.{Name, same_name}
use Rattle.dist_model.specs.Node.{Node, first_where}
use Rattle.dist_model.specs.Seen.{seen, side_of_trunk}
use Rattle.dist_model.specs.Sides.{TrunkSide, is_over}
use Rattle.dist_model.specs.World.{World, first_of}
use Rattle.erl_names.specs.declared.trunk.TrunkId.{TrunkId}

-- a side that is lost or gone takes nothing any more. The first item that comes to a node makes its side
abbrev pub takes : Option TrunkSide → Bool
takes None = true
takes (Some side) = not (is_over side.state)

-- the node at the other end of a connection. One of which a node has no side yet was dialed by its peer
abbrev pub peer_on : TrunkId → Option TrunkSide → Name
peer_on trunk None = trunk.dialer
peer_on trunk (Some side) = side.peer

-- from a certain peer, or from any
abbrev pub is_from : Option Name → Name → Bool
is_from None peer = true
is_from (Some name) peer = same_name peer name

abbrev pub takes_from : Option Name → TrunkId → Option TrunkSide → Bool
takes_from from trunk side = takes side && is_from from (peer_on trunk side)

-- the side of a node, if there is the node
abbrev pub side_in : Option Node → TrunkId → Option TrunkSide
side_in node trunk = seen node None (λ node. fm.get node.sides trunk)

-- the side that the world has at the node of a name takes the items that come
abbrev pub is_taken : World → TrunkId → Name → Bool
is_taken world trunk name = takes (side_of_trunk world name trunk)

-- the least connection that passes, of those on which something travels to the node of a name
abbrev pub least_to : World → Name → (TrunkId → Bool) → Option TrunkId
least_to world name passes =
    option_map (λ entry. entry.0.0)
    (first_where (λ place items. same_name place.1 name && (is_some (first_of items) && passes place.0)) (fm.entries world.lists))

-- the least on which something comes that will be taken. A node of the world has the sides that the world has
abbrev pub next_arrival : World → Node → (from : Option Name) → Option TrunkId
next_arrival world node from =
    least_to world node.mint.name
    (λ trunk. is_taken world trunk node.mint.name && takes_from from trunk (fm.get node.sides trunk))
