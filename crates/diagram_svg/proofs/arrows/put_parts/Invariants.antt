use Rattle.std.proofs.Common.{string_bytes}
use Rattle.diagram_svg.specs.Markup.{Appends}
use Rattle.diagram_svg.proofs.arrows.put_parts.Given as goal

abbrev pub invariant-loop-arrows : goal.invariant-loop-arrows
invariant-loop-arrows l = Appends (string_bytes l.fn.out) (string_bytes l.out)
