-- The lines that show all of a node in a thread, which has other nodes beside it.
use Rattle.std.specs.Prelude.{ℕ, Bool, if◌then◌else◌, List, [], ◌++◌, Result, Ok, Err}
use Rattle.std.specs.FinMap as fm
use Rattle.std.specs.List.{flat_map}
use Rattle.dist_books.specs.Acting.{Nodes}
use Rattle.dist_model.specs.Names.{Name, same_name}
use Rattle.dist_model.specs.Node.{Node}
use Rattle.erl_names.specs.declared.trunk.TrunkId.{TrunkId}
use Rattle.erl_term.specs.declared.refusal.Refusal.{Refusal}
use Rattle.node_texts.specs.Trunks.{trunks_text}
use Rattle.node_texts.specs.Whole.{whole_node}
use Rattle.world_core.specs.Coming.{peer_on}

-- its processes with their links and monitors, and its connections to the nodes
abbrev pub whole_with : Node → Nodes → List ℕ
whole_with node nodes = whole_node node ++ (if node.up then flat_map (λ peer. trunks_text node peer.0) nodes else [])

-- a connection of the node leads to a peer
abbrev pub leads_at : Node → (peer : Name) → TrunkId → Result Bool Refusal
leads_at node peer trunk = if node.up then Ok (same_name (peer_on trunk (fm.get node.sides trunk)) peer) else Err Refusal.NodeDown
