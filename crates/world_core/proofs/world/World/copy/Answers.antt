use Rattle.std.proofs.Common.{map, ap, ◌∙◌}
use Rattle.node_core.specs.Model.{model_of}
use Rattle.world_core.specs.declared.world.World.{World}
use Rattle.world_core.proofs.Copied.{stands_again}
use Rattle.world_core.proofs.world.World.copy.Goals as goal

pub returns : goal.returns
returns c = λ m stands.
    let copy : World = record { nodes = c.in_ok-copies_of.field-0; lists = c.in_ok-copy.field-0 } in
    stands_again c.args.self.now copy m (c.in_ok-copies_of.ensures ∙ ap (map model_of) c.deref.ensures.value) c.in_ok-copy.ensures stands
