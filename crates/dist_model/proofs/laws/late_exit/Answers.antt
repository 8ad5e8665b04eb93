use Rattle.dist_model.proofs.laws.late_exit.Goals as goal
use Rattle.dist_model.proofs.ExampleLate.{late_exit_reported, late_exit_waits}

pub returns-clause-waiting : goal.returns-clause-waiting
returns-clause-waiting c = late_exit_waits

pub returns-clause-ignored : goal.returns-clause-ignored
returns-clause-ignored c = late_exit_reported
