-- The items in flight to a node from a peer, and the text that shows them.
-- (ERTS User's Guide, Distribution Protocol; Reference Manual, Processes, Delivery of Signals.)
use Rattle.std.specs.Prelude.{Some, Bool, if◌then◌else◌, ℕ, List, [], ◌∷◌, ◌++◌, ◌&&◌, codes}
use Rattle.std.specs.FinMap as fm
use Rattle.std.specs.List.{flat_map}
use Rattle.dist_model.specs.Items.{Item}
use Rattle.dist_model.specs.Names.{Name, same_name}
use Rattle.dist_model.specs.Node.{Node}
use Rattle.dist_model.specs.World.{World}
use Rattle.erl_names.specs.declared.trunk.TrunkId.{TrunkId}
use Rattle.item_texts.specs.Words.{item_text}
use Rattle.world_core.specs.Coming.{is_taken, takes_from}

-- a node takes the items that come from a peer on a connection
abbrev pub takes_on : World → Node → (peer : Name) → TrunkId → Bool
takes_on world node peer trunk = is_taken world trunk node.mint.name && takes_from (Some peer) trunk (fm.get node.sides trunk)

-- the items on a connection to the node of that name, if the connection passes
abbrev pub coming_on : Name → (TrunkId → Bool) → (TrunkId × Name) × List Item → List Item
coming_on name passes entry = if same_name entry.0.1 name && passes entry.0.0 then entry.1 else []

-- the items in flight to a node from a peer that the node will take: connection by connection in their order, on each the oldest first
abbrev pub travelling : World → Node → (peer : Name) → List Item
travelling world node peer = flat_map (coming_on node.mint.name (takes_on world node peer)) (fm.entries world.lists)

-- an item behind others
abbrev pub more_text : Item → List ℕ
more_text item = codes "; " ++ item_text item

abbrev pub items_text : List Item → List ℕ
items_text [] = []
items_text (item ∷ rest) = item_text item ++ flat_map more_text rest

abbrev pub travels_text : List Item → List ℕ
travels_text [] = codes "none\n"
travels_text (item ∷ rest) = codes "travels " ++ items_text (item ∷ rest) ++ codes "\n"
