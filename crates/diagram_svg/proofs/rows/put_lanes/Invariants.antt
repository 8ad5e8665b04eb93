use Rattle.std.proofs.Common.{string_bytes}
use Rattle.diagram_svg.specs.Markup.{Appends}
use Rattle.diagram_svg.proofs.rows.put_lanes.Given as goal

abbrev pub invariant-loop-number : goal.invariant-loop-number
invariant-loop-number l = Appends (string_bytes l.fn.out) (string_bytes l.out)
