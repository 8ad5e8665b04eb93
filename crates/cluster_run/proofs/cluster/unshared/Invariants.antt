use Rattle.std.proofs.Common.{◌≡◌}
use Rattle.cluster_run.proofs.cluster.unshared.Given as goal

-- the state stays
abbrev pub invariant-loop : goal.invariant-loop
invariant-loop g l = l.shared ≡ l.fn.shared
