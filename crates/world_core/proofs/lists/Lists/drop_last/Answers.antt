use Rattle.std.proofs.Common.{sym, ◌∙◌}
use Rattle.world_core.proofs.Nodes.{last_gone, none_last}
use Rattle.world_core.proofs.lists.Lists.drop_last.Goals as goal

pub returns-in-Some : goal.returns-in-Some
returns-in-Some c =
    last_gone c.args.self.now c.self.inside.lines.entries c.change.new.self.entries c.change-in-Some.new.self.entries
    c.self.view_is c.args.trunk.now c.args.to.now c.in-Some.line c.new.result c.drop_last.new.self
    (sym c.change.ensures.before ∙ c.in-Some.is) c.change.ensures.entries c.change-in-Some.ensures.entries c.drop_last.ensures

pub returns-in_default : goal.returns-in_default
returns-in_default c =
    none_last c.args.self.now c.self.inside.lines.entries c.change.new.self.entries c.self.view_is c.args.trunk.now
    c.args.to.now c.new.result (sym c.change.ensures.before ∙ c.in_default.is) c.change.ensures.entries
