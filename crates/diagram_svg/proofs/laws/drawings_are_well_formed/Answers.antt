use Rattle.diagram_svg.proofs.Content.{document}
use Rattle.diagram_svg.proofs.laws.drawings_are_well_formed.Goals as goal

pub returns : goal.returns
returns c = document
