use Rattle.dist_model.proofs.laws.exit_comes.Goals as goal
use Rattle.dist_model.proofs.ExampleEnds.{exit_comes}

pub returns : goal.returns
returns c = record { reacts = exit_comes }
