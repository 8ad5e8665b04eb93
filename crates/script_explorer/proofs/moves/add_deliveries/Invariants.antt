use Rattle.std.proofs.Common.{◌≡◌, ◌++◌, drop}
use Rattle.dist_model.specs.World.{World as TheWorld}
use Rattle.node_core.specs.Model.{model_of}
use Rattle.script_explorer.specs.Moves.{deliveries}
use Rattle.world_core.specs.Names.{names_of}
use Rattle.world_core.specs.Stands.{StandsFor}
use Rattle.script_explorer.proofs.moves.add_deliveries.Given as goal

abbrev pub invariant-loop-peer : goal.invariant-loop-peer
invariant-loop-peer l =
    (m : TheWorld) → StandsFor l.world m
    → l.moves.items ++ deliveries m (model_of l.node) l.place l.peer (names_of (drop l.peer l.other-items))
    ≡ l.fn.moves.items ++ deliveries m (model_of l.node) l.place 0 (names_of l.other-items)
