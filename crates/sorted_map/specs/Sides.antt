-- The items of a part of a tree.
use Rattle.std.specs.Prelude.{Option, None, Some, List, []}
use Rattle.std.specs.declared.boxed.Box.{Box}

abbrev pub items_of : {T A : Type 0} → Option (Box (List T) A) → List T
items_of None = []
items_of (Some node) = node.value
