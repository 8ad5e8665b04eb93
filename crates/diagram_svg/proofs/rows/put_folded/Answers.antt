use Rattle.std.proofs.Common.{string_bytes}
use Rattle.diagram_svg.proofs.Appended.{appends_nothing}
use Rattle.diagram_svg.proofs.rows.put_folded.Goals as goal

pub returns-in-empty : goal.returns-in-empty
returns-in-empty c = appends_nothing (string_bytes c.args.out.now)
