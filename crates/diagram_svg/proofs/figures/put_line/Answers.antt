use Rattle.std.proofs.Common.{arith}
use Rattle.std.proofs.lemmas.Grind.{common_steps}
use Rattle.diagram_svg.proofs.Content.{line_appends}
use Rattle.diagram_svg.proofs.figures.put_line.Goals as goal

pub returns-clause-content : goal.returns-clause-content
returns-clause-content c = line_appends c.args.class.now c.args.from c.args.to c.args.tooltip.now _ _ (grind (arith, common_steps))
