-- The lines of a text, and the last of them.
use Rattle.std.specs.Prelude.{◌≡◌, ℕ, ◌==◌, Bool, false, List, [], ◌∷◌, All}
use Rattle.std.specs.List.{slice_split}

abbrev pub is_break : ℕ → Bool
is_break c = c == 10

-- no line break is among the bytes
abbrev pub IsOneLine : List ℕ → Type 0
IsOneLine bytes = All (λ c. is_break c ≡ false) bytes

-- the later of two lines, of which an empty one counts for nothing
abbrev pub later : (first second : List ℕ) → List ℕ
later first [] = first
later first (c ∷ cs) = c ∷ cs

unfoldable pub last_of : (before : List ℕ) → List (List ℕ) → List ℕ
last_of before [] = before
last_of before (line ∷ lines) = last_of (later before line) lines

-- the last line that isn't empty. A text without such a line has the empty one
abbrev pub last_line : List ℕ → List ℕ
last_line text = last_of [] (slice_split is_break text)
