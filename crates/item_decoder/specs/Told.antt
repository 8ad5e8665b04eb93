-- All that is told of the term or the item at the front of bytes.
use Rattle.std.specs.Prelude.{◌≡◌, ◌<◌, ◌≤◌, ℕ, List, length}
use Rattle.fault_places.specs.Places.{IsPlace, own_len}
use Rattle.fault_places.specs.declared.places.Reader.{Reader}
use Rattle.item_decoder.specs.Answers.{IsAnswer}
use Rattle.item_decoder.specs.declared.answers.Answer.{Answer}
use Rattle.item_decoder.specs.declared.told.Told.{Told}

-- so many bytes are told of: those of the item, all where more are needed, and of a refused item its own
abbrev pub IsLen : Reader → List ℕ → Answer → ℕ → Type 0
IsLen reader bytes (Answer.Found found taken) n = n ≡ taken
IsLen reader bytes Answer.Begun n = n ≡ length bytes
IsLen reader bytes (Answer.Refused why) n = n ≡ own_len reader bytes

-- the place of the fault
abbrev pub IsPlaceOf : Reader → List ℕ → Answer → ℕ → Type 0
IsPlaceOf reader bytes (Answer.Found found taken) n = n ≡ 0
IsPlaceOf reader bytes Answer.Begun n = n ≡ length bytes
IsPlaceOf reader bytes (Answer.Refused why) n = IsPlace reader bytes n

-- so many of the bytes, and at least one of some
abbrev pub Moves : List ℕ → ℕ → Type 0
Moves bytes n = (n ≤ length bytes) × (0 < length bytes → 0 < n)

-- the words for a fault are open
pub record IsTold (reader : Reader) (bytes : List ℕ) (told : Told) : Type 0 where
  pub is : IsAnswer reader bytes told.answer
  pub len : IsLen reader bytes told.answer told.len
  pub place : IsPlaceOf reader bytes told.answer told.place
