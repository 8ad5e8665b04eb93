use Rattle.std.proofs.Common.{◌≡◌, ℕ, drop}
use Rattle.diagram.specs.Queues.{seen_at, traffic, traffic_of}
use Rattle.diagram.proofs.queues.all_traffic.Given as goal

abbrev pub invariant-loop-at : goal.invariant-loop-at
invariant-loop-at l = (q : ℕ) → traffic q l.at (drop l.at l.rows) (seen_at l.table.items q) ≡ traffic_of q l.rows
