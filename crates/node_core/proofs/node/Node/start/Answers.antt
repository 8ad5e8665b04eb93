use Rattle.node_plan.specs.Seen.{seen}
use Rattle.node_core.proofs.node.Node.start.Goals as goal

pub invariant_of-self : goal.invariant_of-self
invariant_of-self c = record { ahead = c.new.ensures.ahead (seen c.start.new.node) }
