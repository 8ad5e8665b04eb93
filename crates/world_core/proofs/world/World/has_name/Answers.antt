use Rattle.std.proofs.Common.{ap, bytes_eq, ◌∙◌}
use Rattle.std.specs.List.{list_any}
use Rattle.world_core.specs.Names.{name_of}
use Rattle.world_core.proofs.Named.{spelled}
use Rattle.world_core.proofs.world.World.has_name.Goals as goal

pub returns : goal.returns
returns c =
    c.is_one_named.ensures ∙ ap (list_any (λ node. bytes_eq c.args.name.now (name_of node))) c.deref.ensures.value
    ∙ spelled c.args.name.now c.args.self.now.nodes.items
