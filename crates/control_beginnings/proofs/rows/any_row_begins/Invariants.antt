use Rattle.std.proofs.Common.{map}
use Rattle.control_beginnings.specs.Parts.{seen}
use Rattle.control_beginnings.proofs.Signals.{NoneBefore}
use Rattle.control_beginnings.proofs.rows.any_row_begins.Given as goal

abbrev pub invariant-loop-row : goal.invariant-loop-row
invariant-loop-row l = NoneBefore (map seen l.rows) l.row-index l.bytes
