use Rattle.std.proofs.Common.{ℕ, List, drop, string_bytes}
use Rattle.diagram_svg.specs.Panels.{ShowsPanels}
use Rattle.diagram_svg.proofs.panels.put_all.Given as goal

-- the panels that are left lead to the end of all
abbrev pub invariant-loop-place : goal.invariant-loop-place
invariant-loop-place l =
    (end : List ℕ)
    → ShowsPanels (drop l.place l.panels) (string_bytes l.out) end → ShowsPanels l.panels (string_bytes l.fn.out) end
