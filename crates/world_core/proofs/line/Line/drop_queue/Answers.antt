use Rattle.world_core.proofs.Lines.{full_without, queue_gone}
use Rattle.world_core.proofs.line.Line.drop_queue.Goals as goal

pub returns : goal.returns
returns c =
    queue_gone c.args.self.now c.self.inside.queues.entries c.remove.new.self.entries c.self.view_is c.args.trunk.now
    c.remove.ensures.entries

pub invariant_of-self : goal.invariant_of-self
invariant_of-self c = (
  full_without c.args.self.now c.self.inside.queues.entries c.remove.new.self.entries c.self.view_is c.args.trunk.now
      c.remove.ensures.entries c.self.invariant.0,
  c.self.invariant.1,
)
