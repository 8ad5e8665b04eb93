use Rattle.std.proofs.Common.{subst}
use Rattle.dist_model.specs.NodeEvents.{Arrive, at_node}
use Rattle.node_core.specs.Model.{model_of}
use Rattle.world_core.specs.Events.{Sends}
use Rattle.world_core.proofs.Planned.{arrived}
use Rattle.world_core.proofs.meeting.take.Goals as goal

pub returns-in-Ok : goal.returns-in-Ok
returns-in-Ok c = λ names first word h.
    let m = model_of c.args.node.now in
    let new = model_of c.finish.new.node in
    let due = at_node names m (Arrive c.args.trunk.now first word) in
    arrived names m new c.args.trunk.now first word c.name.result.now c.args.lists.now c.finish.new.lists
    c.drop_first.new.self c.in-Ok.report
    (subst (Sends due m new c.args.lists.now c.finish.new.lists) c.in-Ok.is (c.finish.ensures due h)) c.name.ensures c.drop_first.ensures

pub returns-in-Err : goal.returns-in-Err
returns-in-Err c = λ names first word h.
    let m = model_of c.args.node.now in
    let due = at_node names m (Arrive c.args.trunk.now first word) in
    subst (Sends due m (model_of c.finish.new.node) c.args.lists.now c.finish.new.lists) c.in-Err.is (c.finish.ensures due h)
