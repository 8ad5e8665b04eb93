use Rattle.std.proofs.Common.{[], ap, map, refl}
use Rattle.node_core.specs.Model.{model_of}
use Rattle.world_core.proofs.Opened.{opens}
use Rattle.world_core.proofs.world.World.empty.Goals as goal

pub returns : goal.returns
returns c = opens _ [] (ap (map model_of) c.new.ensures.items) c.new-2.ensures refl refl
