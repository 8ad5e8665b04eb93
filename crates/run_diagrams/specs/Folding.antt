-- Lines at which nothing happened share a row, in which no arrow begins or ends.
use Rattle.std.specs.Prelude.{◌≡◌, ℕ, List}
use Rattle.diagram.specs.Arrows.{arrows_of}
use Rattle.diagram.specs.declared.rows.Row.{Row}

-- each queue has the same arrows
abbrev pub KeepsArrows : (old new : List Row) → Type 0
KeepsArrows old new = (queue : ℕ) → arrows_of queue new ≡ arrows_of queue old
