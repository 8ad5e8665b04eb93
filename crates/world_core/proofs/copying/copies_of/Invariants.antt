use Rattle.std.proofs.Common.{◌≡◌, map, take}
use Rattle.node_core.specs.Model.{model_of}
use Rattle.world_core.proofs.copying.copies_of.Given as goal

abbrev pub invariant-loop-node : goal.invariant-loop-node
invariant-loop-node l = map model_of l.copies.items ≡ map model_of (take l.node-index l.nodes)
