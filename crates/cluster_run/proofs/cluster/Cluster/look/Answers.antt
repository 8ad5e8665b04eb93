use Rattle.std.proofs.Common.{refl}
use Rattle.cluster_run.proofs.cluster.Cluster.look.Goals as goal

pub returns-clause-ok : goal.returns-clause-ok
returns-clause-ok g c = (c.node.result.now, (c.node.result, c.f.ensures, refl))
