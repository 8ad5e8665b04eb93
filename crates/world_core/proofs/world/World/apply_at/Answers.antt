use Rattle.std.proofs.Common.{ap, subst, sym, ◌∙◌}
use Rattle.std.specs.List.{position}
use Rattle.dist_model.specs.Names.{same_name}
use Rattle.dist_model.specs.World.{node_of}
use Rattle.world_core.proofs.Named.{no_place_is, place_is}
use Rattle.world_core.proofs.Stepped.{no_node}
use Rattle.world_core.specs.Ran.{Came}
use Rattle.node_core.specs.NodeEvents.{event_at}
use Rattle.world_core.specs.Names.{name_at, name_of}
use Rattle.world_core.proofs.world.World.apply_at.Goals as goal

pub returns-in-Some : goal.returns-in-Some
returns-in-Some c = λ m h.
    let nodes = c.args.self.now.nodes.items in
    let at =
    ap (λ ns. name_at ns c.in-Some.node) h.names ∙ place_is nodes c.args.name.now c.in-Some.node (ap
    (position (λ node. same_name (name_of node) c.args.name.now)) (sym c.deref.ensures.value) ∙ sym c.place_of.ensures
    ∙ c.in-Some.is) in
    subst (λ name. Came c.apply.new.self m (event_at name c.args.event) c.apply.result) at (c.apply.ensures m h)

pub returns-in-None : goal.returns-in-None
returns-in-None c = λ m h.
    let nodes = c.args.self.now.nodes.items in
    no_node c.args.self.now m h c.args.self.now c.args.name.now c.args.event
    (ap (λ ns. node_of ns c.args.name.now) h.nodes ∙ no_place_is nodes c.args.name.now (ap
    (position (λ node. same_name (name_of node) c.args.name.now)) (sym c.deref.ensures.value) ∙ sym c.place_of.ensures
    ∙ c.in-None.is)) h
