use Rattle.std.proofs.Common.{None, Ok, arith}
use Rattle.dist_model.specs.NodeEvents.{at_node}
use Rattle.node_core.specs.Model.{model_of}
use Rattle.node_history.proofs.AnsweredTwice.{err_is, knowing, not_entered, told_of}
use Rattle.node_history.proofs.WrittenDown.{tried_at}
use Rattle.node_core.specs.NodeEvents.{met}
use Rattle.node_history.proofs.history.History.act.Goals as goal

pub returns-in_err-stamp-clause-tries : goal.returns-in_err-stamp-clause-tries
returns-in_err-stamp-clause-tries c = λ names known.
    let e = c.in_err-stamp.ensures in
    not_entered (at_node names (model_of c.args.self.now.node) (met c.args.event None)) c.args.event c.args.above c.args.self.now
    c.next_stamp.new.self c.from_residual.result c.in_err-stamp.field-0.0
    (err_is c.from_residual.result c.in_err-stamp.field-0.0 c.from_residual.ensures.1) e.node e.last e.entries e.err

pub returns-in-Ok-write-clause-tries : goal.returns-in-Ok-write-clause-tries
returns-in-Ok-write-clause-tries c = λ names known.
    tried_at names (met c.args.event None) c.args.event c.args.above c.in_ok-stamp.stamp c.args.self.now c.next_stamp.new.self
    c.write.new.self c.act_twice.new.node c.in-Ok.both.answer
    c.next_stamp.ensures.node c.next_stamp.ensures.last c.next_stamp.ensures.entries c.in_ok-stamp.ensures.ok (omega arith)
    (c.in-Ok.ensures.ok names known).does (Ok c.in-Ok-write.place) c.in-Ok-write.ensures

pub returns-in-Ok-write-clause-told : goal.returns-in-Ok-write-clause-told
returns-in-Ok-write-clause-told c =
    let n = knowing c.args.event c.args.is_known in
    told_of c.in_ok-stamp.stamp c.args.event c.in-Ok.both.answer c.in-Ok.both.copy
    (record (c.next_stamp.new.self) { node = c.act_twice.new.node }) c.write.new.self
    c.in-Ok-write.place c.in-Ok-write.ensures (c.in-Ok.ensures.ok n.0 n.1).same
