-- The rows of some lines of a script are drawn: those of the lines before are kept, and those of the lines behind are counted.
use Rattle.std.specs.Prelude.{ℕ, ◌-◌, Bool, true, false, nat_lt, if◌then◌else◌}
use Rattle.run_diagrams.specs.declared.scope.LineRange.{LineRange}
use Rattle.run_diagrams.specs.declared.scope.Part.{Part}
use Rattle.run_diagrams.specs.declared.scope.Part.TheVariants as part
use Rattle.run_diagrams.specs.declared.scope.Scope.{Scope}

abbrev pub part_of : LineRange → (line : ℕ) → Part
part_of lines line = if nat_lt line lines.first then part.Before else if nat_lt lines.last line then part.Behind else part.Within

-- how many of so many rows aren't drawn
abbrev pub hidden_in : Part → (hidden rows : ℕ) → ℕ
hidden_in part.Before hidden rows = rows
hidden_in _ hidden rows = hidden

abbrev pub hidden_at : Scope → (rows : ℕ) → ℕ
hidden_at scope rows = hidden_in scope.part scope.hidden rows

-- a line begins at so many rows
abbrev pub reached : Scope → (line rows : ℕ) → Scope
reached scope line rows = record { lines = scope.lines; part = part_of scope.lines line; hidden = hidden_at scope rows }

-- 10,000 rows are drawn at most
abbrev pub has_room_in : Part → (hidden rows : ℕ) → Bool
has_room_in part.Before hidden rows = true
has_room_in part.Within hidden rows = nat_lt (rows - hidden) 10000
has_room_in part.Behind hidden rows = false

abbrev pub has_room : Scope → (rows : ℕ) → Bool
has_room scope rows = has_room_in scope.part scope.hidden rows
