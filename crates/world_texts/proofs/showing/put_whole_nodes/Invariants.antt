use Rattle.std.proofs.Common.{◌≡◌, ◌++◌, take, string_bytes}
use Rattle.std.specs.List.{flat_map}
use Rattle.node_core.specs.Model.{model_of}
use Rattle.world_core.specs.Names.{names_of}
use Rattle.world_texts.specs.Shown.{whole_node_of}
use Rattle.world_texts.proofs.showing.put_whole_nodes.Given as goal

abbrev pub invariant-loop-node : goal.invariant-loop-node
invariant-loop-node l =
    string_bytes l.out ≡ string_bytes l.fn.out
    ++ flat_map (λ node. whole_node_of (names_of l.nodes) (model_of node)) (take l.node-index l.nodes)
