use Rattle.std.proofs.Common.{ap}
use Rattle.dist_model.specs.Arrivals.{on_up}
use Rattle.dist_model.specs.Work.{at_work}
use Rattle.dist_model.specs.declared.report.Answer.{Answer}
use Rattle.dist_model.specs.declared.report.Kind.{Kind}
use Rattle.node_plan.proofs.Outcomes.{planned}
use Rattle.node_plan.specs.Seen.{seen}
use Rattle.node_connections.specs.Coming.{item_of}
use Rattle.node_tables.specs.Standings.{side_of}
use Rattle.node_connections.proofs.arriving.take_item.Goals as goal

pub returns-in-Tick : goal.returns-in-Tick
returns-in-Tick c =
    let m = seen c.args.node.now in
    planned m _ (Answer.Took Kind.Tick) (at_work m) c.answers.new.self
    (ap (λ i. on_up c.args.side.now.trunk (side_of c.args.side.now) (item_of i) (at_work m)) c.in-Tick.is)
    (c.answers.ensures.told m) (c.answers.ensures.carries m (at_work m) c.requires.carries)
