use Rattle.std.proofs.Common.{◌≡◌, [], length}
use Rattle.std.specs.List.{slice_split}
use Rattle.script_lines.specs.Breaks.{is_break, last_of}
use Rattle.script_lines.proofs.breaks.last_line.Given as goal

abbrev pub invariant-loop-line : goal.invariant-loop-line
invariant-loop-line l = last_of l.last (slice_split is_break l.rest) ≡ last_of [] (slice_split is_break l.text)

abbrev pub decreases-loop-line : goal.decreases-loop-line
decreases-loop-line l = length l.rest
