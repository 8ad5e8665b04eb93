use Rattle.std.proofs.Common.{string_bytes}
use Rattle.diagram_svg.proofs.Appended.{appends_nothing}
use Rattle.diagram_svg.proofs.arrows.put_one.Goals as goal

pub returns-then-is_over : goal.returns-then-is_over
returns-then-is_over c = appends_nothing (string_bytes c.args.out.now)

pub returns-in-None : goal.returns-in-None
returns-in-None c = appends_nothing (string_bytes c.args.out.now)
