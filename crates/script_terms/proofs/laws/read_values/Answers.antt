use Rattle.script_terms.proofs.Given.{value_given, printable_given}
use Rattle.script_terms.proofs.laws.read_values.Goals as goal

pub returns-clause-value : goal.returns-clause-value
returns-clause-value c = value_given

pub returns-clause-line : goal.returns-clause-line
returns-clause-line c = printable_given
