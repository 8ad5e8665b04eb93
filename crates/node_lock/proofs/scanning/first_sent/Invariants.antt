use Rattle.std.proofs.Common.{◌≡◌, drop}
use Rattle.node_core.specs.SentAt.{sent_at}
use Rattle.node_lock.proofs.scanning.first_sent.Given as goal

abbrev pub invariant-loop-place : goal.invariant-loop-place
invariant-loop-place l = sent_at l.trunk l.peer (drop l.place l.effects) ≡ sent_at l.trunk l.peer (drop l.from l.effects)
