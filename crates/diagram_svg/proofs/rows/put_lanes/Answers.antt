use Rattle.std.proofs.Common.{string_bytes}
use Rattle.diagram_svg.proofs.Appended.{appends_nothing}
use Rattle.diagram_svg.proofs.rows.put_lanes.Goals as goal

pub loop-number-init : goal.loop-number-init
loop-number-init c = appends_nothing (string_bytes c.args.out.now)
