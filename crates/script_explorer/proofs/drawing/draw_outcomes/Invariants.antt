use Rattle.std.proofs.Common.{◌≡◌, List, length, map}
use Rattle.script_explorer.specs.Drawn.{heading_in, shown_heading}
use Rattle.script_explorer.specs.Printed.{AreNumbered, Shown}
use Rattle.script_explorer.proofs.drawing.draw_outcomes.Given as goal

abbrev pub invariant-loop-place : goal.invariant-loop-place
invariant-loop-place l =
    (shown : List (Shown l.seed))
    × (length shown ≡ l.place)
    × AreNumbered 1 (length l.scripts) shown
    × (map heading_in l.panels.items ≡ map shown_heading shown)
