use Rattle.std.proofs.Common.{string_bytes}
use Rattle.diagram_svg.proofs.Appended.{appends_nothing}
use Rattle.diagram_svg.proofs.rows.put_heads.Goals as goal

pub loop-place-init : goal.loop-place-init
loop-place-init c = appends_nothing (string_bytes c.args.out.now)
