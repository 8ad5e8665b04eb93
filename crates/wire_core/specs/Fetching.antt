-- A piece is taken off a wire.
use Rattle.std.specs.Prelude.{◌≡◌, ◌⊎◌, ℕ, Some, List, ◌++◌, length}
use Rattle.wire_core.specs.Ports.{PortSeen, fetched, with_gathered}
use Rattle.wire_core.specs.Fronts.{front_length}
use Rattle.wire_core.specs.Pieces.{IsLength, PieceSeen}
use Rattle.wire_core.specs.Spellings.{SpellsItem}
use Rattle.wire_core.specs.declared.parcel.Parcel.{Parcel}

-- they have the length that the first of them tell
abbrev pub IsWhole : List ℕ → Type 0
IsWhole bytes = front_length bytes ≡ Some (length bytes)

-- with the piece an item is whole: it has come, under the stamp of the piece
pub record EndsItem (piece : PieceSeen) (old new : PortSeen) : Type 0 where
  pub parcel : Parcel
  pub stamp : parcel.stamp ≡ piece.stamp
  pub bytes : parcel.bytes ≡ old.gathered ++ piece.bytes
  pub spelled : SpellsItem parcel.bytes
  pub whole : IsWhole (old.gathered ++ piece.bytes)
  pub becomes : new ≡ fetched old parcel

-- more of the item is to come
pub record GoesOn (piece : PieceSeen) (old new : PortSeen) : Type 0 where
  pub is_part : ¬ IsWhole (old.gathered ++ piece.bytes)
  pub becomes : new ≡ with_gathered old (old.gathered ++ piece.bytes)

pub record Fetches (old new : PortSeen) : Type 0 where
  pub piece : PieceSeen
  pub is_short : IsLength (length piece.bytes)
  pub comes : EndsItem piece old new ⊎ GoesOn piece old new
