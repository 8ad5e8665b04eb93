use Rattle.std.proofs.Common.{Ok, ap, subst, sym, ◌∙◌}
use Rattle.node_core.specs.Model.{model_of}
use Rattle.node_history.proofs.AnsweredTwice.{plain_as, starts_quietly, stops_quietly, twice_as}
use Rattle.node_history.specs.Acts.{Knows}
use Rattle.node_core.specs.declared.node_event.NodeEvent.TheVariants as event
use Rattle.node_history.proofs.acts.act_twice.Goals as goal

pub returns-in_ok-carry_out-in-Call-clause-ok : goal.returns-in_ok-carry_out-in-Call-clause-ok
returns-in_ok-carry_out-in-Call-clause-ok c = λ names known.
    twice_as (event.Call c.in_ok-copy-in-Call.copy) c.args.event.now names c.in_ok-spare.spare (model_of c.args.node.now)
    (model_of c.of.new.node) (model_of c.plan_call-made.new.self)
    (model_of c.carry_out.new.node) c.plan_call-made.new.planned.plan c.plan_call-made.result (Ok c.in_ok-carry_out-in-Call.field-0)
    (ap (λ x. event.Call x) c.in_ok-copy-in-Call.ensures ∙ sym c.in-Call.is)
    c.in_ok-spare.ensures.same c.plan_call-made.ensures.same (c.in_ok-spare.ensures.fills names)
    (c.plan_call-made.ensures.plan names) c.in_ok-carry_out-in-Call.ensures.ok

pub returns-in_ok-carry_out-in-Lose-clause-ok : goal.returns-in_ok-carry_out-in-Lose-clause-ok
returns-in_ok-carry_out-in-Lose-clause-ok c = λ names known.
    twice_as (event.Lose c.in-Lose.trunk) c.args.event.now names c.in_ok-spare.spare (model_of c.args.node.now)
    (model_of c.of.new.node) (model_of c.plan_loss-made.new.self)
    (model_of c.carry_out-in-Lose.new.node) c.plan_loss-made.new.planned.plan c.plan_loss-made.result (Ok c.in_ok-carry_out-in-Lose.field-0) (sym c.in-Lose.is)
    c.in_ok-spare.ensures.same c.plan_loss-made.ensures.same (c.in_ok-spare.ensures.fills names)
    (c.plan_loss-made.ensures.plan names) c.in_ok-carry_out-in-Lose.ensures.ok

pub returns-in_ok-carry_out-in-Dial-clause-ok : goal.returns-in_ok-carry_out-in-Dial-clause-ok
returns-in_ok-carry_out-in-Dial-clause-ok c = λ names known.
    twice_as (event.Dial c.in-Dial.peer c.in-Dial.word) c.args.event.now names c.in_ok-spare.spare (model_of c.args.node.now)
    (model_of c.of.new.node) (model_of c.plan_dial-made.new.self)
    (model_of c.carry_out-in-Dial.new.node) c.plan_dial-made.new.planned.plan c.plan_dial-made.result (Ok c.in_ok-carry_out-in-Dial.field-0) (sym c.in-Dial.is)
    c.in_ok-spare.ensures.same c.plan_dial-made.ensures.same (c.in_ok-spare.ensures.fills names)
    (c.plan_dial-made.ensures.plan names (subst (λ w. Knows names w c.args.is_known) c.in-Dial.is known))
    c.in_ok-carry_out-in-Dial.ensures.ok

pub returns-in-Stop-clause-ok : goal.returns-in-Stop-clause-ok
returns-in-Stop-clause-ok c = λ names known.
    plain_as event.Stop c.args.event.now names c.in_ok-spare.spare (model_of c.args.node.now) (model_of c.of.new.node)
    (model_of c.stop.new.self) c.stop.result
    c.told_twice.result.answer c.told_twice.result.copy
    (sym c.in-Stop.is) c.in_ok-spare.ensures.same c.told_twice.ensures.answer (c.in_ok-spare.ensures.fills names)
    (stops_quietly names) (c.stop.ensures names) c.told_twice.ensures.copy

pub returns-in-Start-clause-ok : goal.returns-in-Start-clause-ok
returns-in-Start-clause-ok c = λ names known.
    plain_as event.Start c.args.event.now names c.in_ok-spare.spare (model_of c.args.node.now) (model_of c.of.new.node)
    (model_of c.start.new.self) c.start.result
    c.told_twice-in-Start.result.answer c.told_twice-in-Start.result.copy
    (sym c.in-Start.is) c.in_ok-spare.ensures.same c.told_twice-in-Start.ensures.answer
    (c.in_ok-spare.ensures.fills names) (starts_quietly names) (c.start.ensures names) c.told_twice-in-Start.ensures.copy
