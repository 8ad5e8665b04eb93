-- What a contract sees of an end of a wire.
use Rattle.std.specs.Prelude.{List}
use Rattle.atomic_table.specs.Seated.{TableId}
use Rattle.wire_core.specs.Pieces.{PieceSeen}

-- of which wire it is, and what went through it, in order
pub record WireEnd : Type 0 where
  pub wire : TableId
  pub pieces : List PieceSeen
