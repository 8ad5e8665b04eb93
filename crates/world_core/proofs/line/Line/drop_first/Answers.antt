use Rattle.std.proofs.Common.{sym, ◌∙◌}
use Rattle.world_core.proofs.Lines.{first_gone, full, none_gone}
use Rattle.world_core.proofs.line.Line.drop_first.Goals as goal

pub returns-in-Some : goal.returns-in-Some
returns-in-Some c =
    first_gone c.args.self.now c.self.inside.queues.entries c.change.new.self.entries c.put_back.new.queues.entries
    c.self.view_is c.args.trunk.now c.in-Some.queue c.new.result c.drop_first.new.self
    (sym c.change.ensures.before ∙ c.in-Some.is) c.change.ensures.entries c.put_back.ensures.queues
    c.drop_first.ensures

pub returns-in_default : goal.returns-in_default
returns-in_default c =
    none_gone c.args.self.now c.self.inside.queues.entries c.change.new.self.entries c.self.view_is c.args.trunk.now c.new.result
    (sym c.change.ensures.before ∙ c.in_default.is) c.change.ensures.entries

pub invariant_of-self : goal.invariant_of-self
invariant_of-self c = (
  full c.args.self.now c.self.inside.queues.entries c.change.new.self.entries c.put_back.new.queues.entries
      c.self.view_is c.args.trunk.now c.in-Some.queue c.new.result c.drop_first.new.self
      (sym c.change.ensures.before ∙ c.in-Some.is) c.change.ensures.entries c.put_back.ensures.queues c.self.invariant.0,
  c.put_back.ensures.spare c.self.invariant.1,
)
