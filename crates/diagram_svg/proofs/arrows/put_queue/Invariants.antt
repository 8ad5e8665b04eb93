use Rattle.std.proofs.Common.{string_bytes}
use Rattle.diagram_svg.specs.Markup.{Appends}
use Rattle.diagram_svg.proofs.arrows.put_queue.Given as goal

abbrev pub invariant-loop-arrow : goal.invariant-loop-arrow
invariant-loop-arrow l = Appends (string_bytes l.fn.out) (string_bytes l.out)
