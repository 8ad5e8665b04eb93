-- The last line of a text, read line by line.
use Rattle.std.proofs.Common.{◌≡◌, ℕ, List, ◌∷◌, ◌++◌, refl, sym, ap, ◌∙◌}
use Rattle.std.proofs.lemmas.List.Splits.{slice_split_at, slice_split_none}
use Rattle.std.specs.List.{slice_split}
use Rattle.script_lines.specs.Breaks.{IsOneLine, is_break, last_of, later}

-- behind a line
pub last_behind : (before line behind rest : List ℕ) → rest ≡ line ++ 10 ∷ behind → IsOneLine line
    → last_of (later before line) (slice_split is_break behind) ≡ last_of before (slice_split is_break rest)
unfolding last_of
last_behind before line behind rest parts one =
    sym (ap (λ (r : List ℕ). last_of before (slice_split is_break r)) parts
    ∙ ap (last_of before) (slice_split_at is_break line 10 behind one refl))

-- at the last line
pub last_there : (before line : List ℕ) → IsOneLine line → later before line ≡ last_of before (slice_split is_break line)
unfolding last_of
last_there before line one = sym (ap (last_of before) (slice_split_none is_break line one))
