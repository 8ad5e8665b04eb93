use Rattle.dist_model.proofs.laws.restart_tells.Goals as goal
use Rattle.dist_model.proofs.ExampleRestart.{restart_tells}

pub returns : goal.returns
returns c = record { down = restart_tells }
