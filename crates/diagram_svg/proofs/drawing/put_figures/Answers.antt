use Rattle.diagram_svg.proofs.Appended.{appends_more}
use Rattle.diagram_svg.proofs.drawing.put_figures.Goals as goal

pub returns : goal.returns
returns c =
    appends_more _ _ _ c.in_ok-put_box.ensures.content
    (appends_more _ _ _ c.in_ok-put_rows.ensures
    (appends_more _ _ _ c.in_ok-put_lanes.ensures
    (appends_more _ _ _ c.in_ok-put_arrows.ensures (appends_more _ _ _ c.in_ok-put_notes.ensures c.in_ok-put_labels.ensures))))
