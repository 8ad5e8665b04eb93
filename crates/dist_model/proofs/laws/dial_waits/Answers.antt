use Rattle.dist_model.proofs.laws.dial_waits.Goals as goal
use Rattle.dist_model.proofs.ExampleWait.{kept_there, parked_there, up_here, up_there}

pub returns-clause-parked : goal.returns-clause-parked
returns-clause-parked c = parked_there

pub returns-clause-held : goal.returns-clause-held
returns-clause-held c = kept_there

pub returns-clause-connected : goal.returns-clause-connected
returns-clause-connected c = λ cookie own other. (up_here cookie own other, up_there cookie own other)
