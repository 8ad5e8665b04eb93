use Rattle.dist_model.proofs.laws.event_is_local.Goals as goal
use Rattle.dist_model.proofs.Locality.{is_local}

pub returns : goal.returns
returns c = record { local = is_local }
