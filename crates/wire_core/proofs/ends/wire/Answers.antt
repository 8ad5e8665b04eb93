use Rattle.std.proofs.Common.{rules}
use Rattle.wire_core.proofs.Moves.{begins, is_cut}
use Rattle.wire_core.proofs.ends.wire.Goals as goal

pub ruled-requires-clause-rule : goal.ruled-requires-clause-rule
ruled-requires-clause-rule c = begins

pub another-other-requires-clause-rule : goal.another-other-requires-clause-rule
another-other-requires-clause-rule c = is_cut _ _ (search rules) (search rules)
