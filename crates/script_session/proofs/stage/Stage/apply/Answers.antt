use Rattle.std.proofs.lemmas.Result.{IfOk-weaker}
use Rattle.node_core.specs.NodeEvents.{event_at}
use Rattle.script_session.proofs.EventOutcomes.{applied}
use Rattle.script_session.proofs.stage.Stage.apply.Goals as goal

pub returns : goal.returns
returns c = λ it h.
    IfOk-weaker c.kept.result _ _
    (λ answer kept. applied it _ (event_at c.args.node.now c.args.event) c.apply_at-came.result answer
    (c.apply_at-came.ensures it.world h.world) kept h.word h.trace h.breaks)
    c.kept.ensures
