use Rattle.std.proofs.Common.{◌≡◌, length}
use Rattle.cluster_run.proofs.cluster.names_of.Given as goal

-- one for each node so far
abbrev pub invariant-loop-name : goal.invariant-loop-name
invariant-loop-name l = length l.names.items ≡ l.name-index
