use Rattle.std.proofs.Common.{string_bytes}
use Rattle.diagram_svg.proofs.Appended.{appends_nothing}
use Rattle.diagram_svg.proofs.rows.put_row_words.Goals as goal

pub loop-line-init : goal.loop-line-init
loop-line-init c = appends_nothing (string_bytes c.args.out.now)
