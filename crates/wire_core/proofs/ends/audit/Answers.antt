use Rattle.std.proofs.Common.{ap}
use Rattle.wire_core.proofs.Moves.{is_joined}
use Rattle.wire_core.proofs.ends.audit.Goals as goal

pub absorb-requires-clause-rule : goal.absorb-requires-clause-rule
absorb-requires-clause-rule g c = is_joined _ _ _ _ (ap (λ v. v.puts) c.out.invariant.2) (ap (λ v. v.takes) c.into.invariant.2)
