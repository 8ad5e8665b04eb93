use Rattle.std.proofs.Common.{string_bytes}
use Rattle.diagram_svg.proofs.Appended.{appends_nothing}
use Rattle.diagram_svg.proofs.arrows.put_parts.Goals as goal

pub loop-arrows-init : goal.loop-arrows-init
loop-arrows-init c = appends_nothing (string_bytes c.args.out.now)
