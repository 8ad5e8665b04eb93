use Rattle.std.proofs.Common.{subst}
use Rattle.dist_model.specs.NodeEvents.{Arrive, at_node}
use Rattle.node_core.specs.Model.{model_of}
use Rattle.node_plan.specs.Planned.{Plans}
use Rattle.node_core.specs.Arrived.{without_len}
use Rattle.world_core.specs.Lists.{at}
use Rattle.world_core.proofs.Planned.{comes_planned}
use Rattle.world_core.proofs.meeting.plan.Goals as goal

pub returns-in-Ok-clause-plan : goal.returns-in-Ok-clause-plan
returns-in-Ok-clause-plan c = λ names first h.
    let m = model_of c.args.node.now in
    let t = c.args.trunk.now in
    let e = c.plan_arrival.ensures in
    subst (λ r. Plans m (at_node names m (Arrive t first c.args.word)) c.plan_arrival.new.planned.plan (without_len r)) c.in-Ok.is
    (comes_planned names m t c.next_bytes-bytes.result.now c.args.word c.plan_arrival.new.planned.plan c.plan_arrival.result
    c.one_answer.ensures c.read_again.ensures c.are_bytes.ensures e.down e.undialed e.came
    (at c.args.lists.now t m.mint.name) first c.next_bytes-bytes.ensures h)

pub returns-in-Err-clause-plan : goal.returns-in-Err-clause-plan
returns-in-Err-clause-plan c = λ names first h.
    let m = model_of c.args.node.now in
    let t = c.args.trunk.now in
    let e = c.plan_arrival.ensures in
    subst (λ r. Plans m (at_node names m (Arrive t first c.args.word)) c.plan_arrival.new.planned.plan (without_len r)) c.in-Err.is
    (comes_planned names m t c.next_bytes-bytes.result.now c.args.word c.plan_arrival.new.planned.plan c.plan_arrival.result
    c.one_answer.ensures c.read_again.ensures c.are_bytes.ensures e.down e.undialed e.came
    (at c.args.lists.now t m.mint.name) first c.next_bytes-bytes.ensures h)
