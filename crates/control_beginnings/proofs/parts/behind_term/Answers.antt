use Rattle.control_beginnings.proofs.parts.behind_term.Goals as goal

pub returns-in_err-rest : goal.returns-in_err-rest
returns-in_err-rest c = rw c.from_residual.ensures (λ text rest s p. c.in_err-rest.ensures.again s.0 text rest s.1 p)
