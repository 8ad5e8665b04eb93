use Rattle.std.proofs.Common.{ap, ◌∙◌}
use Rattle.node_core.proofs.PlanDone.{done}
use Rattle.node_core.specs.Arrived.{arrives}
use Rattle.node_core.specs.Model.{model_of}
use Rattle.node_plan.specs.Plans.{committed, told}
use Rattle.node_core.proofs.node.Node.arrive.Goals as goal

pub returns-in-Ok-clause-came : goal.returns-in-Ok-clause-came
returns-in-Ok-clause-came c = λ up dialed.
    let m = model_of c.args.self.now in
    let plan = c.plan_arrival.new.planned.plan in
    let h = c.in-Ok.ensures.came up dialed in
    record {
      front = h.front;
      is = h.is;
      does = (
        done m (model_of c.commit.new.self) (arrives m c.args.trunk.now h.front c.args.word) plan c.commit.result h.plans.0
            (c.commit.ensures.node ∙ ap (committed plan) c.in-Ok.ensures.same)
            (c.commit.ensures.answer ∙ ap (told plan) c.in-Ok.ensures.same) c.commit.ensures.effects,
        h.plans.1,
      );
    }
