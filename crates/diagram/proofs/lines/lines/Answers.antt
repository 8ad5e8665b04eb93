use Rattle.std.proofs.Common.{arith}
use Rattle.diagram.proofs.LineSteps.{one_more}
use Rattle.diagram.proofs.lines.lines.Goals as goal

pub loop-i-preserved : goal.loop-i-preserved
loop-i-preserved c =
    one_more c.first_line-first.result c.loop-i.i _ c.as_slice-marks.result.now c.index-marks-i.result c.loop-i.lines.items
    c.push.new.self.items _
    (omega arith) c.index-marks-i.is c.in_ok-line_of.ensures c.loop-i.invariant c.in_ok-push.ensures.items
