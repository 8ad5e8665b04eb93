-- Parcels that were put and taken, compared by what they say.
use Rattle.std.specs.Prelude.{◌≡◌, ◌≢◌, ℕ, ◌<◌, Option, List, length, slice_get}
use Rattle.std.specs.Option.{option_map}
use Rattle.wire_core.specs.declared.parcel.Parcel.{Parcel}

-- what a parcel says: the stamp of the event that sent it, and the bytes of the item
abbrev pub said : Parcel → ℕ × List ℕ
said parcel = (parcel.stamp, parcel.bytes)

abbrev pub said_at : List Parcel → ℕ → Option (ℕ × List ℕ)
said_at parcels place = option_map said (slice_get parcels place)

-- what was taken begins what was put
abbrev pub Begins : (taken put : List Parcel) → Type 0
Begins taken put = (place : ℕ) → place < length taken → said_at put place ≡ said_at taken place

-- the first that was taken and not put so is at this place
pub record IsTornAt (taken put : List Parcel) (place : ℕ) : Type 0 where
  pub within : place < length taken
  pub before : (i : ℕ) → i < place → said_at put i ≡ said_at taken i
  pub here : said_at put place ≢ said_at taken place
