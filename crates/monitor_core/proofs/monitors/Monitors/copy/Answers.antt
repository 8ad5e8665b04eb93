use Rattle.monitor_core.proofs.Copied.{same_monitors}
use Rattle.monitor_core.proofs.monitors.Monitors.copy.Goals as goal

pub invariant_of-result : goal.invariant_of-result
invariant_of-result g c =
    let trees = c.in_ok-copy-2.ensures in
    same_monitors g.M.Kept.process_of g.M.Kept.node_of c.self.inside.slots c.in_ok-copy.field-0 c.self.inside.trees c.in_ok-copy-2.field-0
    c.self.inside.room c.in_ok-copy.ensures trees.references trees.processes trees.nodes c.self.invariant
