use Rattle.node_core.specs.Model.{model_of}
use Rattle.world_core.proofs.Planned.{silent, stop_is_silent}
use Rattle.world_core.proofs.happening.stop.Goals as goal

pub returns : goal.returns
returns c =
    λ names. silent _ (model_of c.args.node.now) (model_of c.stop.new.self) c.args.lists.now c.stop.result
    (stop_is_silent (model_of c.args.node.now)) (c.stop.ensures names)
