use Rattle.dist_model.proofs.laws.monitor_tells.Goals as goal
use Rattle.dist_model.proofs.ExampleEnds.{monitor_tells}

pub returns : goal.returns
returns c = record { down = monitor_tells }
