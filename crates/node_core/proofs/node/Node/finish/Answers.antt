use Rattle.std.proofs.Common.{refl, subst}
use Rattle.node_core.specs.Model.{model_of}
use Rattle.node_core.proofs.PlanDone.{done}
use Rattle.node_plan.specs.Planned.{Plans}
use Rattle.node_core.proofs.node.Node.finish.Goals as goal

pub returns-in-Ok : goal.returns-in-Ok
returns-in-Ok c = λ due h.
    let m = model_of c.args.self.now in
    let plan = c.args.planned.plan in
    done m (model_of c.commit.new.self) due plan c.commit.result (subst (λ r. Plans m due plan r) c.in-Ok.is h)
    c.commit.ensures.node c.commit.ensures.answer c.commit.ensures.effects

pub returns-in-Err : goal.returns-in-Err
returns-in-Err c = λ due h. (subst (λ r. Plans (model_of c.args.self.now) due c.args.planned.plan r) c.in-Err.is h, refl)
