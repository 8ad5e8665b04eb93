use Rattle.std.proofs.Common.{◌≡◌, ◌++◌, drop, take, []}
use Rattle.diagram.specs.Lines.{lines_from}
use Rattle.diagram.proofs.lines.lines.Given as goal

abbrev pub invariant-loop-i : goal.invariant-loop-i
invariant-loop-i l = l.lines.items ++ lines_from l.first (take l.i l.marks) (drop l.i l.marks) ≡ lines_from l.first [] l.marks
