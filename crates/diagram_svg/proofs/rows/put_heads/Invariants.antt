use Rattle.std.proofs.Common.{string_bytes}
use Rattle.diagram_svg.specs.Markup.{Appends}
use Rattle.diagram_svg.proofs.rows.put_heads.Given as goal

abbrev pub invariant-loop-place : goal.invariant-loop-place
invariant-loop-place l = Appends (string_bytes l.fn.out) (string_bytes l.out)
