use Rattle.cluster_run.proofs.Asked.{asked_so, refused_so, same_so}
use Rattle.cluster_run.proofs.cluster.Cluster.call.Goals as goal

pub returns-clause-ok : goal.returns-clause-ok
returns-clause-ok g c = asked_so c.args.act _ _ c.args.seat.now c.call-place.new.seat c.call-place.result c.call-place.ensures.ok

pub returns-clause-err : goal.returns-clause-err
returns-clause-err g c = same_so c.args.act _ _ c.args.seat.now c.call-place.new.seat c.call-place.result c.call-place.ensures.err

pub returns-clause-why : goal.returns-clause-why
returns-clause-why g c = refused_so c.args.act _ _ c.args.seat.now c.call-place.new.seat c.call-place.result c.call-place.ensures.err
