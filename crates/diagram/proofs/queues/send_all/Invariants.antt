use Rattle.std.proofs.Common.{◌≡◌, ℕ, drop}
use Rattle.diagram.specs.Queues.{seen_at, sending}
use Rattle.diagram.proofs.queues.send_all.Given as goal

abbrev pub invariant-loop-mark : goal.invariant-loop-mark
invariant-loop-mark l =
    (q : ℕ)
    → sending q l.row l.mark (drop l.mark l.marks) (seen_at l.table.items q) ≡ sending q l.row 0 l.marks (seen_at l.fn.table.items q)
