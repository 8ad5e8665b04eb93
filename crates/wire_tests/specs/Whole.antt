-- Pieces that are whole items.
use Rattle.std.specs.Prelude.{List, [], ◌∷◌}
use Rattle.wire_core.specs.Pieces.{PieceSeen}
use Rattle.wire_core.specs.Spellings.{SpellsItem}

abbrev pub AreItems : List PieceSeen → Type 0
AreItems [] = Unit {0}
AreItems (piece ∷ rest) = SpellsItem piece.bytes × AreItems rest
