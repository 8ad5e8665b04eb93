use Rattle.dist_model.proofs.laws.late_down.Goals as goal
use Rattle.dist_model.proofs.ExampleLate.{late_down_reported}

pub returns : goal.returns
returns c = record { none = late_down_reported }
