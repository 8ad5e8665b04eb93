use Rattle.dist_model.proofs.laws.moments.Goals as goal
use Rattle.dist_model.proofs.Run.{moments}

pub returns : goal.returns
returns c = record { between = moments }
