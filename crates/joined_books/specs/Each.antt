-- What holds of each element of a list, with its place.
use Rattle.std.specs.Prelude.{ℕ, ◌<◌, List, length, slice_index_or}

abbrev pub AllAt : {X : Type 0} → (ℕ → X → Type 0) → List X → Type 0
AllAt {X} P xs = (k : ℕ) (d : X) → k < length xs → P k (slice_index_or xs k d)
