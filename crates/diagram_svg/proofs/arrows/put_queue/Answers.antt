use Rattle.std.proofs.Common.{string_bytes}
use Rattle.diagram_svg.proofs.Appended.{appends_nothing}
use Rattle.diagram_svg.proofs.arrows.put_queue.Goals as goal

pub loop-arrow-init : goal.loop-arrow-init
loop-arrow-init c = appends_nothing (string_bytes c.args.out.now)
