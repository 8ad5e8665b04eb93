-- The lines that scripts have in common at their beginning.
use Rattle.std.specs.Prelude.{◌≡◌, ◌≤◌, ◌<◌, ℕ, Bool, false, true, List, Option, None, Some, Vec, length}
use Rattle.std.specs.Borrow.{Bor}
use Rattle.std.specs.Global.{Global}
use Rattle.std.specs.List.{list_all, slice_get}
use Rattle.std.specs.Str.{bytes_eq}

-- a script has this line at a place, counted from 0
abbrev pub is_line : (line : List ℕ) → Option (Vec ℕ Global) → Bool
is_line line None = false
is_line line (Some other) = bytes_eq other.items line

abbrev pub has_line : (place : ℕ) → (line : List ℕ) → (script : List (Vec ℕ Global)) → Bool
has_line place line script = is_line line (slice_get script place)

abbrev pub all_have : (place : ℕ) → (line : List ℕ) → (scripts : List (Bor (List (Vec ℕ Global)))) → Bool
all_have place line scripts = list_all (λ script. has_line place line script.now) scripts

-- So many lines of the first script stand in the same places of all others. Its next line doesn't.
pub record BeginAlike (count : ℕ) (first : List (Vec ℕ Global)) (others : List (Bor (List (Vec ℕ Global)))) : Type 0 where
  pub within : count ≤ length first
  pub alike : (place : ℕ) (line : List ℕ) → place < count → has_line place line first ≡ true → all_have place line others ≡ true
  pub differ : (line : List ℕ) → has_line count line first ≡ true → all_have count line others ≡ true → ⊥
