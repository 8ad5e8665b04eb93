use Rattle.diagram_svg.proofs.Appended.{appends_whole}
use Rattle.diagram_svg.proofs.drawing.put_picture.Goals as goal

pub returns : goal.returns
returns c = appends_whole _ _ _ _ _ _ _ _ c.in_ok-put_start.ensures c.in_ok-put_figures.ensures c.in_ok-put_end.ensures
