use Rattle.script_terms.proofs.Shown.{term_line, pid_line, reference_line}
use Rattle.script_terms.proofs.laws.one_line.Goals as goal

pub returns-clause-term : goal.returns-clause-term
returns-clause-term c = term_line

pub returns-clause-pid : goal.returns-clause-pid
returns-clause-pid c = pid_line

pub returns-clause-reference : goal.returns-clause-reference
returns-clause-reference c = reference_line
