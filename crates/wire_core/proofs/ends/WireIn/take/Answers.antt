use Rattle.std.proofs.Common.{ap}
use Rattle.wire_core.proofs.Moves.{takes}
use Rattle.wire_core.proofs.ends.WireIn.take.Goals as goal

pub pop_as-requires-clause-rule : goal.pop_as-requires-clause-rule
pop_as-requires-clause-rule g c = (takes _ _ (ap (λ v. v.takes) c.self.invariant.2), λ items views holds at. tt)
