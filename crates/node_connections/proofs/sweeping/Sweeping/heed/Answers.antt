use Rattle.node_plan.specs.Plans.{committed}
use Rattle.node_connections.proofs.sweeping.Sweeping.heed.Goals as goal

pub returns-then-gets_more : goal.returns-then-gets_more
returns-then-gets_more c = λ m h. c.new.ensures.ahead (committed c.args.plan.now m)
