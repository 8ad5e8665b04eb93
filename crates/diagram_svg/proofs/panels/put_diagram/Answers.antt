use Rattle.diagram_svg.proofs.Shown.{nests}
use Rattle.diagram_svg.proofs.panels.put_diagram.Goals as goal

pub returns : goal.returns
returns c = nests _ _ _ _ _ _ _ c.in_ok-put_part_start.ensures c.in_ok-put_figures.ensures c.in_ok-put_end.ensures
