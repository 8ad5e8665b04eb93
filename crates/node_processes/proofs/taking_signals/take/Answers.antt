use Rattle.std.proofs.Common.{sym, subst}
use Rattle.dist_model.specs.Taking.{take}
use Rattle.erl_control.specs.declared.signal.Signal.{Signal}
use Rattle.node_plan.specs.Carried.{Carries}
use Rattle.node_plan.specs.Seen.{seen}
use Rattle.node_processes.proofs.taking_signals.take.Goals as goal

pub returns-in-Send-clause-carries : goal.returns-in-Send-clause-carries
returns-in-Send-clause-carries c = λ w h.
    subst (λ (s : Signal). Carries (seen c.args.node.now) (take c.args.source.now s w) c.take_message.new.plan c.take_message.result)
    (sym c.in-Send.is) (c.take_message.ensures.carries c.args.source.now w h)

pub returns-in-RegSend-clause-carries : goal.returns-in-RegSend-clause-carries
returns-in-RegSend-clause-carries c = λ w h.
    subst (λ (s : Signal). Carries (seen c.args.node.now) (take c.args.source.now s w) c.take_named.new.plan c.take_named.result)
    (sym c.in-RegSend.is) (c.take_named.ensures.carries c.args.source.now c.in-RegSend.from w h)

pub returns-in-Exit2-clause-carries : goal.returns-in-Exit2-clause-carries
returns-in-Exit2-clause-carries c = λ w h.
    subst (λ (s : Signal). Carries (seen c.args.node.now) (take c.args.source.now s w) c.take_exit2.new.plan c.take_exit2.result)
    (sym c.in-Exit2.is) (c.take_exit2.ensures.carries c.args.source.now w h)
