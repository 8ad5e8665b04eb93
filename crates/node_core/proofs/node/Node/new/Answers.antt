use Rattle.node_plan.specs.Seen.{seen}
use Rattle.node_core.proofs.node.Node.new.Goals as goal

pub invariant_of-result : goal.invariant_of-result
invariant_of-result c = record { ahead = c.new-2.ensures.ahead (seen c.in_ok-new.field-0) }
