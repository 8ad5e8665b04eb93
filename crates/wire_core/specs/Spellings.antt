-- What a parcel carries.
use Rattle.std.specs.Prelude.{◌≡◌, ℕ, List}
use Rattle.dist_model.specs.Items.{Item}
use Rattle.node_frames.specs.Frames.{IsSpelled, bytes_of}

-- the bytes of one whole item, as it is written
pub record SpellsItem (bytes : List ℕ) : Type 0 where
  pub item : Item
  pub spelled : IsSpelled item
  pub written : bytes_of item ≡ bytes
