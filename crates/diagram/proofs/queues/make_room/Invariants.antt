use Rattle.std.proofs.Common.{◌≡◌, ℕ, ◌+◌, ◌-◌, vec_len}
use Rattle.diagram.specs.Queues.{seen_at}
use Rattle.diagram.proofs.queues.make_room.Given as goal

abbrev pub invariant-grow : goal.invariant-grow
invariant-grow l = (q : ℕ) → seen_at l.table.items q ≡ seen_at l.fn.table.items q

abbrev pub decreases-grow : goal.decreases-grow
decreases-grow l = (l.queue + 1) - vec_len l.table
