use Rattle.std.proofs.Common.{◌≡◌, drop}
use Rattle.diagram.specs.Lines.{reach}
use Rattle.diagram.proofs.lines.reach.Given as goal

abbrev pub invariant-loop-line : goal.invariant-loop-line
invariant-loop-line l = reach l.height (drop l.line-index l.lines) ≡ reach l.least l.lines
