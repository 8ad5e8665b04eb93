use Rattle.std.proofs.Common.{string_bytes}
use Rattle.diagram_svg.proofs.Appended.{appends_nothing}
use Rattle.diagram_svg.proofs.rows.put_under.Goals as goal

pub loop-words-init : goal.loop-words-init
loop-words-init c = appends_nothing (string_bytes c.args.out.now)
