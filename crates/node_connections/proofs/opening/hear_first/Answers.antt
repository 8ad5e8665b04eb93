use Rattle.std.proofs.Common.{Some}
use Rattle.dist_model.specs.Work.{at_work}
use Rattle.dist_model.proofs.KeepTaken.{fresh_taken}
use Rattle.node_connections.proofs.Accepted.{wants_memory}
use Rattle.node_plan.specs.Seen.{seen}
use Rattle.node_connections.proofs.opening.hear_first.Goals as goal

pub returns-in_default : goal.returns-in_default
returns-in_default c = wants_memory _ (fresh_taken (Some c.args.message) c.args.trunk.now c.args.word (at_work (seen c.args.node.now)))
