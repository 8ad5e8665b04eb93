use Rattle.std.proofs.Common.{◌≡◌, ◌++◌, string_bytes, take}
use Rattle.std.specs.List.{flat_map}
use Rattle.dist_model.specs.World.{World as TheWorld}
use Rattle.node_core.specs.Model.{model_of}
use Rattle.world_core.specs.Stands.{StandsFor}
use Rattle.world_texts.specs.Shown.{travels_lines}
use Rattle.world_texts.proofs.arriving.put_all_lines.Given as goal

abbrev pub invariant-loop-node : goal.invariant-loop-node
invariant-loop-node l =
    (m : TheWorld) → StandsFor l.world m
    → string_bytes l.out ≡ string_bytes l.fn.out ++ flat_map (λ node. travels_lines m (model_of node)) (take l.node-index l.nodes)
