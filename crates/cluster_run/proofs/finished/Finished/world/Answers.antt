use Rattle.cluster_run.proofs.Merged.{lent}
use Rattle.cluster_run.proofs.finished.Finished.world.Goals as goal

pub returns-clause-ok : goal.returns-clause-ok
returns-clause-ok c =
    lent c.args.self.now.trace.entries.items c.args.self.now.nodes.items c.deref.result.now c.args.self.now.books.items c.deref-2.result.now
    c.replay.result c.deref.ensures.value c.deref-2.ensures.value c.replay.ensures.ok
