use Rattle.std.proofs.Common.{refl}
use Rattle.script_core.proofs.Expectations.{all_met, first_unmet}
use Rattle.script_core.specs.Script.{lines_of}
use Rattle.script_session.specs.Session.{fresh_state}
use Rattle.script_core.proofs.laws.every_expectation.Goals as goal

pub returns-clause-whole : goal.returns-clause-whole
returns-clause-whole c = λ trace seed input whole. all_met (fresh_state trace seed) (lines_of input) refl whole

pub returns-clause-unmet : goal.returns-clause-unmet
returns-clause-unmet c = λ trace seed input number e.
    first_unmet c.words_are_never_unmet.ensures (fresh_state trace seed) (lines_of input) number refl e
