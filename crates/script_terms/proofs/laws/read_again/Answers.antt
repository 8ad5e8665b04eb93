use Rattle.std.proofs.Common.{◌≡◌, ℕ, List, true, Ok}
use Rattle.erl_term.specs.Data.{Data}
use Rattle.script_terms.specs.Binding.{Look}
use Rattle.script_terms.specs.Reading.{term_of}
use Rattle.script_terms.specs.Printing.{term_text}
use Rattle.script_terms.specs.Values.{is_literal}
use Rattle.script_terms.proofs.Again.{value_again}
use Rattle.script_terms.proofs.Given.{value_given}
use Rattle.script_terms.proofs.laws.read_again.Goals as goal

text_again : (look other : Look) (text : List ℕ) (t : Data) → term_of look text ≡ Ok t → is_literal t ≡ true
    → term_of other (term_text t) ≡ Ok t
text_again look other text t e l = let v = value_given look text t e in value_again other t v.0 v.1 l

pub returns-clause-value : goal.returns-clause-value
returns-clause-value c = value_again

pub returns-clause-text : goal.returns-clause-text
returns-clause-text c = text_again
