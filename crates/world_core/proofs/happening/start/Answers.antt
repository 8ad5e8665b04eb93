use Rattle.node_core.specs.Model.{model_of}
use Rattle.world_core.proofs.Planned.{silent, start_is_silent}
use Rattle.world_core.proofs.happening.start.Goals as goal

pub returns : goal.returns
returns c =
    λ names. silent _ (model_of c.args.node.now) (model_of c.start.new.self) c.args.lists.now c.start.result
    (start_is_silent (model_of c.args.node.now)) (c.start.ensures names)
