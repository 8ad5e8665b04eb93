use Rattle.dist_model.proofs.Named.{names_are_of_the_living}
use Rattle.dist_model.proofs.laws.names_are_of_the_living.Goals as goal

pub returns : goal.returns
returns c = names_are_of_the_living
