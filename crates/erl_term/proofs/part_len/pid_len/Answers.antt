use Rattle.std.proofs.Common.{arith}
use Rattle.erl_term.proofs.part_len.pid_len.Goals as goal

pub returns-clause-in_range : goal.returns-clause-in_range
returns-clause-in_range c =
    record { node = c.atom_len.ensures.in_range; id = omega arith; serial = omega arith; creation = omega arith }
