use Rattle.std.proofs.Common.{◌∙◌}
use Rattle.node_plan.proofs.Quieted.{all_pass}
use Rattle.node_plan.proofs.node.Node.has_nothing_between.Goals as goal

pub returns : goal.returns
returns c = c.all_pass.ensures ∙ all_pass c.args.p.now c.args.q.now c.args.self.now.local.items
