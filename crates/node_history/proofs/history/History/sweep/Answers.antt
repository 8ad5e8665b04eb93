use Rattle.std.proofs.Common.{arith}
use Rattle.dist_model.specs.NodeEvents as model
use Rattle.node_history.proofs.WrittenDown.{tried_at}
use Rattle.node_core.specs.declared.node_event.NodeEvent.TheVariants as event
use Rattle.node_history.proofs.history.History.sweep.Goals as goal

pub returns : goal.returns
returns c = λ names.
    tried_at names model.Sweep event.Sweep 0 c.in_ok-stamp.stamp c.args.self.now c.next_stamp.new.self c.write.new.self
    c.sweep-answer.new.self c.sweep-answer.result
    c.next_stamp.ensures.node c.next_stamp.ensures.last c.next_stamp.ensures.entries c.in_ok-stamp.ensures.ok (omega arith)
    (c.sweep-answer.ensures names)
    c.write.result c.write.ensures
