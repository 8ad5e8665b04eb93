use Rattle.std.proofs.Common.{◌++◌, refl, ap, subst, ◌∙◌}
use Rattle.node_core.specs.Model.{model_of}
use Rattle.node_plan.specs.Planned.{Plans}
use Rattle.world_core.specs.Lists.{at}
use Rattle.node_core.specs.SentAt.{sent_at}
use Rattle.world_core.proofs.Planned.{lacks, sends_planned}
use Rattle.world_core.proofs.finishing.finish.Goals as goal

pub returns-in-Ok-send : goal.returns-in-Ok-send
returns-in-Ok-send c = λ due h.
    let m = model_of c.args.node.now in
    sends_planned m (model_of c.commit.new.self) due c.args.planned.plan c.commit.result c.args.lists.now c.send.new.self
    (subst (λ r. Plans m due c.args.planned.plan r) c.in-Ok.is h)
    c.commit.ensures.node c.commit.ensures.answer c.commit.ensures.effects
    (λ t x. c.in-Ok-send.ensures.ok t x ∙ ap (λ es. at c.args.lists.now t x ++ sent_at t x es) c.effects.ensures)

pub returns-in-Err-send : goal.returns-in-Err-send
returns-in-Err-send c = λ due h.
    let m = model_of c.args.node.now in
    lacks m m due c.args.planned.plan c.args.lists.now c.send.new.self (subst (λ r. Plans m due c.args.planned.plan r) c.in-Ok.is h)
    refl c.in-Err-send.ensures.err

pub returns-in-Err : goal.returns-in-Err
returns-in-Err c = λ due h. (subst (λ r. Plans (model_of c.args.node.now) due c.args.planned.plan r) c.in-Err.is h, refl, λ t x. refl)
