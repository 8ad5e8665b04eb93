use Rattle.std.proofs.Common.{ℕ, List, drop, map, string_bytes}
use Rattle.diagram_svg.specs.Panels.{SaysAll}
use Rattle.diagram_svg.proofs.panels.put_heading.Given as goal

-- the lines that are left lead to the end of all
abbrev pub invariant-loop-place : goal.invariant-loop-place
invariant-loop-place l =
    (end : List ℕ)
    → SaysAll (map string_bytes (drop l.place l.lines)) (string_bytes l.out) end
    → SaysAll (map string_bytes l.lines) (string_bytes l.fn.out) end
