use Rattle.std.proofs.Common.{drop}
use Rattle.control_beginnings.specs.Parts.{Starts, AreParts}
use Rattle.control_beginnings.proofs.Sequences.{Iff}
use Rattle.control_beginnings.proofs.parts.parts_begin.Given as goal

abbrev pub invariant-loop-part : goal.invariant-loop-part
invariant-loop-part l = Iff (Starts (AreParts l.levels (drop l.part-index l.parts)) l.rest) (Starts (AreParts l.levels l.parts) l.bytes)
