use Rattle.std.proofs.Common.{string_bytes}
use Rattle.diagram_svg.specs.Markup.{Appends}
use Rattle.diagram_svg.proofs.rows.put_row_words.Given as goal

abbrev pub invariant-loop-line : goal.invariant-loop-line
invariant-loop-line l = Appends (string_bytes l.fn.out) (string_bytes l.out)
