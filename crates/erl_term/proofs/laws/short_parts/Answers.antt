use Rattle.erl_term.proofs.Short.{integer_short, pid_short, reference_short}
use Rattle.erl_term.proofs.laws.short_parts.Goals as goal

pub returns-clause-integer : goal.returns-clause-integer
returns-clause-integer c = integer_short

pub returns-clause-pid : goal.returns-clause-pid
returns-clause-pid c = pid_short

pub returns-clause-reference : goal.returns-clause-reference
returns-clause-reference c = reference_short
