use Rattle.std.proofs.Common.{ap, sym, ◌∙◌}
use Rattle.std.specs.List.{find}
use Rattle.std.specs.Option.{option_map}
use Rattle.dist_model.specs.Names.{same_name}
use Rattle.dist_model.specs.World.{node_of}
use Rattle.node_core.specs.Model.{model_of}
use Rattle.world_core.specs.Names.{name_of}
use Rattle.world_core.proofs.Named.{node_found}
use Rattle.world_core.proofs.world.World.node.Goals as goal

pub returns : goal.returns
returns c = λ m h.
    let name = c.args.name.now in
    ap (option_map model_of) (c.find.ensures ∙ ap (find (λ node. same_name (name_of node) name)) c.deref.ensures.value)
    ∙ sym (node_found c.args.self.now.nodes.items name) ∙ ap (λ ns. node_of ns name) (sym h.nodes)
