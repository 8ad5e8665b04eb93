use Rattle.std.proofs.Common.{arith, Some, subst, sym}
use Rattle.dist_model.specs.NodeEvents as model
use Rattle.node_history.proofs.WrittenDown.{tried_at}
use Rattle.node_core.specs.declared.node_event.NodeEvent.TheVariants as event
use Rattle.node_core.specs.Model.{model_of}
use Rattle.node_core.specs.declared.node.Node.{Node}
use Rattle.node_core.specs.ComingToANode.{CanCome}
use Rattle.node_history.proofs.history.History.arrive.Goals as goal

pub returns : goal.returns
returns c = λ names item is can.
    tried_at names (model.Arrive c.args.trunk (Some item) c.args.word) (event.Arrive c.args.trunk c.args.word) c.args.sent
    c.in_ok-stamp.stamp c.args.self.now c.next_stamp.new.self c.write.new.self c.arrive-answer.new.node
    c.arrive-answer.result
    c.next_stamp.ensures.node c.next_stamp.ensures.last c.next_stamp.ensures.entries c.in_ok-stamp.ensures.ok (omega
    arith) (c.arrive-answer.ensures names item is
    (subst (λ (n : Node). CanCome (model_of n) c.args.trunk item) (sym c.next_stamp.ensures.node) can))
    c.write.result c.write.ensures
