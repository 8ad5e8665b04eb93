use Rattle.std.proofs.Common.{ap, ◌∙◌, ◌++◌, map}
use Rattle.dist_model.specs.Runs.{new_node}
use Rattle.node_core.specs.Model.{model_of}
use Rattle.world_core.proofs.Opened.{opens}
use Rattle.world_core.proofs.world.World.new.Goals as goal

pub returns-in-Ok : goal.returns-in-Ok
returns-in-Ok c =
    opens _ c.args.nodes.items (c.in-Ok.ensures.made
    ∙ ap (λ ns. map model_of ns ++ map (λ node. new_node node.0 node.1) c.args.nodes.items) c.new-made.ensures.items)
    c.new.ensures c.in-Ok.ensures.named c.requires
