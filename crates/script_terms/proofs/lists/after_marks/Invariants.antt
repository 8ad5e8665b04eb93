use Rattle.std.proofs.Common.{◌≡◌, ◌-◌}
use Rattle.script_terms.specs.Steps.{marks_at}
use Rattle.script_terms.proofs.lists.after_marks.Given as goal

abbrev pub invariant-loop : goal.invariant-loop
invariant-loop l = marks_at l.mark (l.count - l.counter) l.rest ≡ marks_at l.mark l.count l.bytes
