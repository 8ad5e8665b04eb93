use Rattle.std.proofs.Common.{rules, sym, ◌∙◌}
use Rattle.world_core.proofs.Lines.{first_more, full, full_more, more, on_err, on_ok, stays}
use Rattle.world_core.proofs.line.Line.push.Goals as goal

pub returns-in-Some-clause-ok : goal.returns-in-Some-clause-ok
returns-in-Some-clause-ok c = on_ok c.push-pushed.result
    (λ e. more c.args.self.now c.self.inside.queues.entries c.change.new.self.entries c.put_back.new.queues.entries
    c.self.view_is c.args.trunk.now c.in-Some.queue c.new.result c.push-pushed.new.self
    (sym c.change.ensures.before ∙ c.in-Some.is) c.change.ensures.entries c.put_back.ensures.queues c.args.frame e)
    c.push-pushed.ensures.ok

pub returns-in-Some-clause-err : goal.returns-in-Some-clause-err
returns-in-Some-clause-err c = on_err c.push-pushed.result
    (λ e. stays c.args.self.now c.self.inside.queues.entries c.change.new.self.entries c.put_back.new.queues.entries
    c.self.view_is c.args.trunk.now c.in-Some.queue c.new.result c.push-pushed.new.self
    (sym c.change.ensures.before ∙ c.in-Some.is) c.change.ensures.entries c.put_back.ensures.queues e)
    c.push-pushed.ensures.err

pub returns-in_ok-insert-in-None-clause-ok : goal.returns-in_ok-insert-in-None-clause-ok
returns-in_ok-insert-in-None-clause-ok c =
    first_more c.args.self.now c.self.inside.queues.entries c.change.new.self.entries c.self.view_is c.args.trunk.now c.new.result
    (sym c.change.ensures.before ∙ c.in-None.is) c.change.ensures.entries
    c.insert.new.self.entries c.push.new.self c.args.frame (search rules) (search rules)

pub invariant_of-self : goal.invariant_of-self
invariant_of-self c = (
  full c.args.self.now c.self.inside.queues.entries c.change.new.self.entries c.put_back.new.queues.entries
      c.self.view_is c.args.trunk.now c.in-Some.queue c.new.result c.push-pushed.new.self
      (sym c.change.ensures.before ∙ c.in-Some.is) c.change.ensures.entries c.put_back.ensures.queues c.self.invariant.0,
  c.put_back.ensures.spare c.self.invariant.1,
)

pub invariant_of-self-in-None : goal.invariant_of-self-in-None
invariant_of-self-in-None c = (
  full_more c.args.self.now c.self.inside.queues.entries c.change.new.self.entries c.self.view_is c.args.trunk.now c.new.result
      (sym c.change.ensures.before ∙ c.in-None.is) c.change.ensures.entries
      c.insert.new.self.entries c.push.new.self c.args.frame (search rules) (search rules) c.self.invariant.0,
  search rules,
)
