use Rattle.erl_names.specs.Minted.{nothing_drawn}
use Rattle.erl_names.proofs.Runs.{ids_differ}
use Rattle.erl_names.proofs.laws.no_id_twice.Goals as goal

pub returns : goal.returns
returns c = λ name creation draws. ids_differ draws (nothing_drawn name creation)
