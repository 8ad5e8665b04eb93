use Rattle.std.specs.Prelude.{pos}
use Rattle.control_beginnings.proofs.parts.behind_id.Goals as goal

pub returns-in_err-id : goal.returns-in_err-id
returns-in_err-id c = rw c.from_residual.ensures (λ text rest s p. c.in_err-id.ensures.again (pos s.0) text rest s.2 p)
