-- The items of a node that was taken apart.
use Rattle.std.specs.Prelude.{List, ◌∷◌, ◌++◌}
use Rattle.sorted_map.specs.declared.nodes.Parts.{Parts}
use Rattle.sorted_map.specs.Sides.{items_of}

abbrev pub items_within : {T : Type 0} → Parts T → List T
items_within parts = items_of parts.left ++ parts.item ∷ items_of parts.right
