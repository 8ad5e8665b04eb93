use Rattle.std.proofs.Common.{◌≡◌, length}
use Rattle.cluster_run.proofs.cluster.desks.Given as goal

-- one for each node so far
abbrev pub invariant-loop-place : goal.invariant-loop-place
invariant-loop-place l = length l.desks.items ≡ l.place
