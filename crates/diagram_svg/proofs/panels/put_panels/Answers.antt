use Rattle.diagram_svg.proofs.Shown.{appends_panels}
use Rattle.diagram_svg.proofs.panels.put_panels.Goals as goal

pub returns : goal.returns
returns c =
    appends_panels _ _ _ _ _ _ _ _ _ _ _ _ c.in_ok-put_start.ensures c.in_ok-put_ground.ensures c.in_ok-put_heading.ensures
    c.in_ok-put_all.ensures c.in_ok-put_end.ensures
