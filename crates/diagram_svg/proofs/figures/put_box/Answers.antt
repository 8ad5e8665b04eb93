use Rattle.std.proofs.Common.{arith}
use Rattle.std.proofs.lemmas.Grind.{common_steps}
use Rattle.diagram_svg.proofs.Content.{box_appends}
use Rattle.diagram_svg.proofs.figures.put_box.Goals as goal

pub returns-clause-content : goal.returns-clause-content
returns-clause-content c = box_appends c.args.class.now c.args.corner c.args.width c.args.height _ _ (grind (arith, common_steps))
