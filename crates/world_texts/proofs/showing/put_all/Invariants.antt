use Rattle.std.proofs.Common.{◌≡◌, ◌++◌, take, string_bytes}
use Rattle.std.specs.List.{flat_map}
use Rattle.node_core.specs.Model.{model_of}
use Rattle.node_texts.specs.Shown.{shown_node}
use Rattle.world_texts.proofs.showing.put_all.Given as goal

abbrev pub invariant-loop-node : goal.invariant-loop-node
invariant-loop-node l =
    string_bytes l.out ≡ string_bytes l.fn.out ++ flat_map (λ node. shown_node (model_of node)) (take l.node-index l.nodes)
