use Rattle.std.proofs.Common.{Some, subst}
use Rattle.node_core.specs.Done.{Does}
use Rattle.node_core.specs.Model.{model_of}
use Rattle.dist_model.specs.NodeEvents.{Arrive, at_node}
use Rattle.node_history.proofs.Fronts.{answer_in, arrives_does}
use Rattle.node_history.proofs.arriving.arrive.Goals as goal

pub returns-in-Ok : goal.returns-in-Ok
returns-in-Ok c = λ names item is can.
    let m = model_of c.args.node.now in
    let new = model_of c.arrive.new.self in
    let e = c.arrive.ensures in
    subst (λ r. Does (at_node names m (Arrive c.args.trunk.now (Some item) c.args.word)) m new (answer_in r)) c.in-Ok.is
    (arrives_does names m new c.args.trunk.now c.args.bytes.now c.args.word item c.arrive.result c.one_answer.ensures
    c.read_again.ensures c.are_bytes.ensures is can e.down e.came)

pub returns-in-Err : goal.returns-in-Err
returns-in-Err c = λ names item is can.
    let m = model_of c.args.node.now in
    let new = model_of c.arrive.new.self in
    let e = c.arrive.ensures in
    subst (λ r. Does (at_node names m (Arrive c.args.trunk.now (Some item) c.args.word)) m new (answer_in r)) c.in-Err.is
    (arrives_does names m new c.args.trunk.now c.args.bytes.now c.args.word item c.arrive.result c.one_answer.ensures
    c.read_again.ensures c.are_bytes.ensures is can e.down e.came)
