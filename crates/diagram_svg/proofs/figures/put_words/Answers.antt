use Rattle.std.proofs.Common.{arith}
use Rattle.std.proofs.lemmas.Grind.{common_steps}
use Rattle.diagram_svg.proofs.Content.{words_append}
use Rattle.diagram_svg.proofs.figures.put_words.Goals as goal

pub returns-clause-content : goal.returns-clause-content
returns-clause-content c = words_append c.args.class.now c.args.at c.args.words.now c.args.tooltip.now _ _ (grind (arith, common_steps))
