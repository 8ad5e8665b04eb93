use Rattle.std.proofs.Common.{◌≡◌, take}
use Rattle.std.specs.List.{flat_map}
use Rattle.dist_model.specs.World.{World as TheWorld}
use Rattle.node_core.specs.Model.{model_of}
use Rattle.world_core.specs.Stands.{StandsFor}
use Rattle.world_texts.proofs.InFlight.{frames_on}
use Rattle.world_texts.proofs.coming.frames_coming.Given as goal

abbrev pub invariant-loop-trunk : goal.invariant-loop-trunk
invariant-loop-trunk l =
    (m : TheWorld) → StandsFor l.world m → l.frames.items ≡ flat_map (frames_on m (model_of l.node) l.peer) (take l.trunk-index l.line)
