use Rattle.std.proofs.Common.{rules, sym, ◌∙◌}
use Rattle.world_core.proofs.Lines.{on_err, on_ok}
use Rattle.world_core.proofs.Nodes.{first_more, more, stays}
use Rattle.world_core.proofs.lists.Lists.push.Goals as goal

pub returns-in-Some-clause-ok : goal.returns-in-Some-clause-ok
returns-in-Some-clause-ok c = on_ok c.push-pushed.result
    (λ e. more c.args.self.now c.self.inside.lines.entries c.change.new.self.entries c.change-in-Some.new.self.entries
    c.self.view_is c.args.trunk.now c.args.to.now c.in-Some.line c.new.result c.push-pushed.new.self
    (sym c.change.ensures.before ∙ c.in-Some.is) c.change.ensures.entries c.change-in-Some.ensures.entries c.args.frame e)
    c.push-pushed.ensures.ok

pub returns-in-Some-clause-err : goal.returns-in-Some-clause-err
returns-in-Some-clause-err c = on_err c.push-pushed.result
    (λ e. stays c.args.self.now c.self.inside.lines.entries c.change.new.self.entries c.change-in-Some.new.self.entries
    c.self.view_is c.args.trunk.now c.args.to.now c.in-Some.line c.new.result c.push-pushed.new.self
    (sym c.change.ensures.before ∙ c.in-Some.is) c.change.ensures.entries c.change-in-Some.ensures.entries e)
    c.push-pushed.ensures.err

pub returns-in_ok-insert-in-None-clause-ok : goal.returns-in_ok-insert-in-None-clause-ok
returns-in_ok-insert-in-None-clause-ok c =
    first_more c.args.self.now c.self.inside.lines.entries c.change.new.self.entries c.self.view_is c.args.trunk.now
    c.args.to.now c.new.result (sym c.change.ensures.before ∙ c.in-None.is) c.change.ensures.entries
    c.insert.new.self.entries c.push.new.self c.args.frame (search rules) (search rules)
