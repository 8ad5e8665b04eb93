use Rattle.std.proofs.Common.{arith}
use Rattle.dist_model.specs.NodeEvents as model
use Rattle.node_history.proofs.WrittenDown.{tried_at}
use Rattle.node_core.specs.declared.node_event.NodeEvent.TheVariants as event
use Rattle.node_history.proofs.history.History.local.Goals as goal

pub returns : goal.returns
returns c = λ names.
    tried_at names model.Local event.Local 0 c.in_ok-stamp.stamp c.args.self.now c.next_stamp.new.self c.write.new.self
    c.local-answer.new.self c.local-answer.result
    c.next_stamp.ensures.node c.next_stamp.ensures.last c.next_stamp.ensures.entries c.in_ok-stamp.ensures.ok (omega arith)
    (c.local-answer.ensures names)
    c.write.result c.write.ensures
