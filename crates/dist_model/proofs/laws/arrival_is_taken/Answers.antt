use Rattle.dist_model.proofs.laws.arrival_is_taken.Goals as goal
use Rattle.dist_model.proofs.KeepTaken.{arrival_taken}

pub returns : goal.returns
returns c = record { taken = arrival_taken }
