use Rattle.std.proofs.Common.{◌≡◌, ◌++◌, drop, map}
use Rattle.dist_model.specs.World.{World as TheWorld}
use Rattle.node_core.specs.Model.{model_of}
use Rattle.script_explorer.specs.Moves.{node_moves}
use Rattle.world_core.specs.Stands.{StandsFor}
use Rattle.script_explorer.proofs.moves.add_nodes.Given as goal

abbrev pub invariant-loop-place : goal.invariant-loop-place
invariant-loop-place l =
    (m : TheWorld) → StandsFor l.world m
    → l.moves.items ++ node_moves m l.place (map model_of (drop l.place l.node-items))
    ≡ l.fn.moves.items ++ node_moves m 0 (map model_of l.node-items)
