use Rattle.std.proofs.Common.{◌≡◌, ℕ, drop}
use Rattle.diagram.specs.Queues.{losing, seen_at}
use Rattle.diagram.proofs.queues.give_up_all.Given as goal

abbrev pub invariant-loop-queue : goal.invariant-loop-queue
invariant-loop-queue l =
    (q : ℕ) → losing q l.row (drop l.queue-index l.queues) (seen_at l.table.items q) ≡ losing q l.row l.queues (seen_at l.fn.table.items q)
