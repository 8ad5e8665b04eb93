use Rattle.dist_model.proofs.laws.events_run.Goals as goal
use Rattle.dist_model.proofs.Run.{events_run}

pub returns : goal.returns
returns c = record { runs = events_run }
