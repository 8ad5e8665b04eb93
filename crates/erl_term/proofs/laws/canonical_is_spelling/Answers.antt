use Rattle.erl_term.proofs.Canonical.{canon_is, canon_least}
use Rattle.erl_term.proofs.laws.canonical_is_spelling.Goals as goal

pub returns : goal.returns
returns c = λ t levels h. (λ s. canon_least t levels s, λ le. canon_is t levels h le)
