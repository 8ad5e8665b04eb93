use Rattle.std.proofs.Common.{[], refl, sym, ◌∙◌}
use Rattle.world_core.proofs.Nodes.{each, none}
use Rattle.world_core.proofs.lists.Lists.drop_queue.Goals as goal

pub returns-in-Some : goal.returns-in-Some
returns-in-Some c =
    each c.args.self.now c.self.inside.lines.entries c.change.new.self.entries c.change-in-Some.new.self.entries
    c.self.view_is c.args.trunk.now c.args.to.now c.in-Some.line c.new.result c.drop_queue.new.self
    (sym c.change.ensures.before ∙ c.in-Some.is) c.change.ensures.entries c.change-in-Some.ensures.entries
    (λ q. []) c.drop_queue.ensures

pub returns-in_default : goal.returns-in_default
returns-in_default c =
    none c.args.self.now c.self.inside.lines.entries c.change.new.self.entries c.self.view_is c.args.trunk.now
    c.args.to.now c.new.result (sym c.change.ensures.before ∙ c.in_default.is) c.change.ensures.entries (λ q. []) refl
