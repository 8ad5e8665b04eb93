use Rattle.dist_model.specs.NodeEvents as event
use Rattle.node_core.specs.Model.{model_of}
use Rattle.node_core.proofs.PlanDone.{does_on}
use Rattle.node_core.proofs.node.Node.lose.Goals as goal

pub returns : goal.returns
returns c = λ names.
    let m = model_of c.args.self.now in
    let made = c.plan_loss-made in
    let due = event.at_node names m (event.Lose c.args.trunk.now) in
    does_on m (model_of made.new.self) (model_of c.finish.new.self) due made.new.planned.plan made.result c.finish.result
    made.ensures.same (c.finish.ensures due) (made.ensures.plan names)
