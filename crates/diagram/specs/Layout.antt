-- What is read of a layout.
use Rattle.std.specs.Prelude.{ℕ, List, []}
use Rattle.std.specs.Option.{option_map_or}
use Rattle.std.specs.List.{slice_get}
use Rattle.diagram.specs.Lists.{items_of}
use Rattle.diagram.specs.declared.arrows.Arrow.{Arrow}
use Rattle.diagram.specs.declared.layout.Layout.{Layout}

-- the arrows of a queue's items
abbrev pub arrows_on : (queue : ℕ) → Layout → List Arrow
arrows_on queue layout = option_map_or items_of (slice_get layout.arrows.items queue) []
