use Rattle.std.proofs.Common.{string_bytes}
use Rattle.diagram_svg.proofs.Appended.{appends_nothing}
use Rattle.diagram_svg.proofs.rows.put_mark.Goals as goal

pub returns-in-Sent : goal.returns-in-Sent
returns-in-Sent c = appends_nothing (string_bytes c.args.out.now)
