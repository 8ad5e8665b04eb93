use Rattle.dist_model.proofs.laws.quiet_test.Goals as goal
use Rattle.dist_model.proofs.QuietTest.{quiet_test}

pub returns : goal.returns
returns c = record { test = quiet_test }
