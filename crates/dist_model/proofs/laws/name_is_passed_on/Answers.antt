use Rattle.dist_model.proofs.laws.name_is_passed_on.Goals as goal
use Rattle.dist_model.proofs.ExampleName.{name_passed_on_tells}

pub returns : goal.returns
returns c = record { tells = name_passed_on_tells }
