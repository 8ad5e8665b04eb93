use Rattle.std.proofs.Common.{string_bytes}
use Rattle.diagram_svg.proofs.Appended.{appends_nothing}
use Rattle.diagram_svg.proofs.rows.put_edge.Goals as goal

pub returns-then-not-has_above : goal.returns-then-not-has_above
returns-then-not-has_above c = appends_nothing (string_bytes c.args.out.now)
