-- The text that shows a world.
-- (Reference Manual, Processes; Distributed Erlang, Nodes.)
use Rattle.std.specs.Prelude.{if◌then◌else◌, ℕ, List, [], ◌∷◌, ◌++◌, codes}
use Rattle.std.specs.List.{flat_map}
use Rattle.dist_model.specs.Items.{Item}
use Rattle.dist_model.specs.Names.{Name}
use Rattle.dist_model.specs.Node.{Node}
use Rattle.dist_model.specs.World.{World}
use Rattle.node_texts.specs.Shown.{shown_node}
use Rattle.node_texts.specs.Trunks.{trunks_text}
use Rattle.node_texts.specs.Whole.{whole_node}
use Rattle.world_texts.specs.Travelling.{items_text, travelling}

abbrev pub shown_world : World → List ℕ
shown_world world = flat_map shown_node world.nodes

-- a node with its connections to the nodes of these names. One that is down has none
abbrev pub whole_node_of : List Name → Node → List ℕ
whole_node_of names node = whole_node node ++ (if node.up then flat_map (trunks_text node) names else [])

-- the items in flight to a node of that name from a peer, if there are any
abbrev pub coming_line : (name peer : Name) → List Item → List ℕ
coming_line name peer [] = []
coming_line name peer (item ∷ rest) = codes "travels " ++ name ++ codes " " ++ peer ++ codes " " ++ items_text (item ∷ rest) ++ codes "\n"

abbrev pub travels_line : World → Node → (peer : Name) → List ℕ
travels_line world node peer = coming_line node.mint.name peer (travelling world node peer)

-- a node that is down takes nothing
abbrev pub travels_lines : World → Node → List ℕ
travels_lines world node = if node.up then flat_map (travels_line world node) world.names else []

abbrev pub whole_world : World → List ℕ
whole_world world = flat_map (whole_node_of world.names) world.nodes ++ flat_map (travels_lines world) world.nodes
