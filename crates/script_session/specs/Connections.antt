-- Commands about the connections of two nodes. A node has to be known, and up.
-- (ERTS User's Guide, Distribution Protocol; Reference Manual, Distributed Erlang.)
use Rattle.std.specs.Prelude.{Option, None, Some, is_some, ℕ, Bool, not, if◌then◌else◌, List, Result, Ok, Err}
use Rattle.std.specs.FinMap as fm
use Rattle.std.specs.Option.{option_map}
use Rattle.dist_model.specs.Names.{Name, same_name}
use Rattle.dist_model.specs.Node.{Node, route, side_where}
use Rattle.dist_model.specs.Seen.{side_of_trunk}
use Rattle.dist_model.specs.Sides.{State, is_dialing, is_up, is_waiting}
use Rattle.dist_model.specs.World.{Arrive, Lose, World, node_of}
use Rattle.erl_names.specs.Order.{trunk_cmp}
use Rattle.erl_names.specs.declared.trunk.TrunkId.{TrunkId}
use Rattle.erl_term.specs.declared.refusal.Refusal.{Refusal}
use Rattle.run_traces.specs.Breaks.{why_text}
use Rattle.script_session.specs.Stage.{Scene, Stage, after, happens, says}
use Rattle.script_session.specs.declared.connections.Live.{Live}
use Rattle.script_texts.specs.Texts.{done_text, refused_text, route_text}
use Rattle.std.specs.declared.cmp.Ordering.{Ordering}
use Rattle.world_core.specs.Coming.{next_arrival, peer_on}
use Rattle.world_texts.specs.Travelling.{travelling, travels_text}

abbrev pub refuses : Refusal → Stage → Scene
refuses why stage = says (refused_text why) stage

-- ---- the next item from a peer

abbrev pub or_nothing : Option TrunkId → Result TrunkId Refusal
or_nothing None = Err Refusal.NothingThere
or_nothing (Some trunk) = Ok trunk

-- the connection on which it comes, or the refusal
abbrev pub coming_at : World → Option Node → (peer : Name) → Result TrunkId Refusal
coming_at world None peer = Err Refusal.NothingThere
coming_at world (Some node) peer = if node.up then or_nothing (next_arrival world node (Some peer)) else Err Refusal.NodeDown

abbrev pub coming_to : World → (node peer : Name) → Result TrunkId Refusal
coming_to world node peer = coming_at world (node_of world.nodes node) peer

abbrev pub arrives : Result TrunkId Refusal → Name → Stage → Scene
arrives (Err why) name stage = refuses why stage
arrives (Ok trunk) name stage = happens (Arrive trunk name stage.word) stage

abbrev pub delivers : (node peer : Name) → Stage → Scene
delivers node peer stage = arrives (coming_to stage.world node peer) node stage

-- ---- the next item on a connection

-- the connection, which has to lead to the peer, or the refusal
abbrev pub leads_to : World → (node peer : Name) → TrunkId → Bool
leads_to world node peer trunk = same_name (peer_on trunk (side_of_trunk world node trunk)) peer

abbrev pub leading_at : Option Node → (leads : Bool) → TrunkId → (otherwise : Refusal) → Result TrunkId Refusal
leading_at None leads trunk otherwise = Err Refusal.NothingThere
leading_at (Some node) leads trunk otherwise =
    if not node.up then Err Refusal.NodeDown else if leads then Ok trunk else Err otherwise

abbrev pub leading : World → (node peer : Name) → TrunkId → (otherwise : Refusal) → Result TrunkId Refusal
leading world node peer trunk otherwise = leading_at (node_of world.nodes node) (leads_to world node peer trunk) trunk otherwise

-- an arrival at which nothing comes is refused by the node
abbrev pub delivers_on : TrunkId → (node peer : Name) → Stage → Scene
delivers_on trunk node peer stage =
    arrives (leading stage.world node peer trunk Refusal.NothingThere) node stage

abbrev pub delivers_by : Option TrunkId → (node peer : Name) → Stage → Scene
delivers_by None node peer stage = delivers node peer stage
delivers_by (Some trunk) node peer stage = delivers_on trunk node peer stage

-- ---- the connection that is up

abbrev pub route_at : Option Node → (peer : Name) → Stage → Scene
route_at None peer stage = refuses Refusal.NothingThere stage
route_at (Some node) peer stage = if node.up then says (route_text (route node peer)) stage else refuses Refusal.NodeDown stage

abbrev pub routes : (node peer : Name) → Stage → Scene
routes node peer stage = route_at (node_of stage.world.nodes node) peer stage

-- ---- the items in flight from a peer

abbrev pub travels_at : Option Node → (peer : Name) → Stage → Scene
travels_at None peer stage = refuses Refusal.NothingThere stage
travels_at (Some node) peer stage =
    if node.up then says (travels_text (travelling stage.world node peer)) stage else refuses Refusal.NodeDown stage

abbrev pub travels : (node peer : Name) → Stage → Scene
travels node peer stage = travels_at (node_of stage.world.nodes node) peer stage

-- ---- the fault by which the last connection to a peer broke

abbrev pub explains_at : Option Node → (node peer : Name) → Stage → Scene
explains_at None name peer stage = refuses Refusal.NothingThere stage
explains_at (Some node) name peer stage = says (why_text (stage.breaks name peer)) stage

abbrev pub explains : (node peer : Name) → Stage → Scene
explains node peer stage = explains_at (node_of stage.world.nodes node) node peer stage

-- ---- a node loses its connection to a peer, and gives up its attempts at one, in the order of the connections' names. It
-- has at most one of each kind

abbrev pub side_on : (State → Bool) → Name → Node → Option TrunkId
side_on test peer node = option_map (λ entry. entry.0) (side_where test peer (fm.entries node.sides))

-- the lesser first, and a connection before none
abbrev pub by_order : Ordering → (trunk other : TrunkId) → Option TrunkId × Option TrunkId
by_order Ordering.Less trunk other = (Some other, Some trunk)
by_order Ordering.Equal trunk other = (Some trunk, Some other)
by_order Ordering.Greater trunk other = (Some trunk, Some other)

abbrev pub in_order : (one other : Option TrunkId) → Option TrunkId × Option TrunkId
in_order None other = (other, None)
in_order (Some trunk) None = (Some trunk, None)
in_order (Some trunk) (Some other) = by_order (trunk_cmp other trunk) trunk other

-- three in order: the greatest goes to the end, and then the first two are put in order
abbrev pub ordered : (one other third : Option TrunkId) → Live
ordered one other third =
    let front = in_order one other in
    let back = in_order front.1 third in
    let first = in_order front.0 back.0 in
    record { first = first.0; second = first.1; third = back.1 }

abbrev pub live_sides : Node → (peer : Name) → Live
live_sides node peer = ordered (side_on is_dialing peer node) (side_on is_waiting peer node) (side_on is_up peer node)

-- where there is none first, there is none
abbrev pub is_any : Live → Bool
is_any live = is_some live.first

-- a loss sends nothing
abbrev pub lose_on : Name → Option TrunkId → Stage → Stage
lose_on name None stage = stage
lose_on name (Some trunk) stage = after stage (Lose trunk name)

abbrev pub lose_all : Name → Live → Stage → Stage
lose_all name live stage = lose_on name live.third (lose_on name live.second (lose_on name live.first stage))

-- the stage afterwards, and the refusal, if there was one
pub record Lost : Type 0 where
  pub stage : Stage
  pub refusal : Option Refusal

abbrev pub unlost : Refusal → Stage → Lost
unlost why stage = record { stage = stage; refusal = Some why }

abbrev pub lose_live : Name → Live → Stage → Lost
lose_live name live stage =
    if is_any live then record { stage = lose_all name live stage; refusal = None } else unlost Refusal.NotLive stage

abbrev pub lose_at : Option Node → (name peer : Name) → Stage → Lost
lose_at None name peer stage = unlost Refusal.NothingThere stage
lose_at (Some node) name peer stage = if node.up then lose_live name (live_sides node peer) stage else unlost Refusal.NodeDown stage

abbrev pub lose : (node peer : Name) → Stage → Lost
lose node peer stage = lose_at (node_of stage.world.nodes node) node peer stage

abbrev pub lost_text : Option Refusal → List ℕ
lost_text None = done_text
lost_text (Some why) = refused_text why

abbrev pub loses : (node peer : Name) → Stage → Scene
loses node peer stage = let lost = lose node peer stage in says (lost_text lost.refusal) lost.stage

-- ---- a node loses one connection to a peer, or gives up one attempt

abbrev pub loses_at : Result TrunkId Refusal → Name → Stage → Scene
loses_at (Err why) name stage = refuses why stage
loses_at (Ok trunk) name stage = happens (Lose trunk name) stage

abbrev pub loses_on : TrunkId → (node peer : Name) → Stage → Scene
loses_on trunk node peer stage = loses_at (leading stage.world node peer trunk Refusal.NotLive) node stage

abbrev pub loses_by : Option TrunkId → (node peer : Name) → Stage → Scene
loses_by None node peer stage = loses node peer stage
loses_by (Some trunk) node peer stage = loses_on trunk node peer stage

-- ---- at both nodes. If both refuse it, the refusal of the first is told

abbrev pub both_text : Option Refusal → Option Refusal → List ℕ
both_text None second = done_text
both_text (Some why) None = done_text
both_text (Some why) (Some other) = refused_text why

abbrev pub cuts : (node peer : Name) → Stage → Scene
cuts node peer stage =
    let here = lose node peer stage in
    let there = lose peer node here.stage in
    says (both_text here.refusal there.refusal) there.stage
