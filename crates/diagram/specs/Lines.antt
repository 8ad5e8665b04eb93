-- On which line of its row each mark stands, and where each row begins.
use Rattle.std.specs.Prelude.{ℕ, ◌+◌, Bool, ◌==◌, List, [], ◌∷◌, ◌++◌, length, count_by, max, is_some, if◌then◌else◌}
use Rattle.diagram.specs.declared.rows.Mark.{Mark}
use Rattle.diagram.specs.declared.rows.Mark.TheVariants as mark
use Rattle.diagram.specs.declared.rows.Row.{Row}

-- the lane on which a mark stands
abbrev pub lane_of : Mark → ℕ
lane_of (mark.Note note) = note.lane
lane_of (mark.Sent item) = item.from

abbrev pub is_on : (lane : ℕ) → Mark → Bool
is_on lane mark = lane_of mark == lane

-- an arrow that ends in a row ends on its first line, and the marks stand below
abbrev pub first_line : Row → ℕ
first_line row = if is_some row.took then 1 else 0

-- each mark stands below those of its lane that come before it
abbrev pub lines_from : (first : ℕ) → (before : List Mark) → List Mark → List ℕ
lines_from first before [] = []
lines_from first before (mark ∷ marks) = (first + count_by (is_on (lane_of mark)) before) ∷ lines_from first (before ++ mark ∷ []) marks

abbrev pub lines_of : Row → List ℕ
lines_of row = lines_from (first_line row) [] row.marks.items

-- how many lines these take, and no fewer than so many
abbrev pub reach : (least : ℕ) → (lines : List ℕ) → ℕ
reach least [] = least
reach least (line ∷ lines) = reach (max least (line + 1)) lines

-- a line at least, and room for the words and for each mark
abbrev pub height_of : Row → ℕ
height_of row = reach (max (length row.words.items) 1) (lines_of row)

-- each row begins below the one before it, and the last line is the one below all
abbrev pub tops_from : (top : ℕ) → List Row → List ℕ
tops_from top [] = top ∷ []
tops_from top (row ∷ rows) = top ∷ tops_from (top + height_of row) rows

abbrev pub tops_of : List Row → List ℕ
tops_of rows = tops_from 0 rows
