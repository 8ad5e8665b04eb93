use Rattle.dist_model.proofs.laws.dials_cross.Goals as goal
use Rattle.dist_model.proofs.ExampleCross.{gone_here, gone_there, stays_here, stays_there}

pub returns-clause-connected : goal.returns-clause-connected
returns-clause-connected c = λ cookie own other word. (stays_here cookie own other word, stays_there cookie own other word)

pub returns-clause-here : goal.returns-clause-here
returns-clause-here c = gone_here

pub returns-clause-there : goal.returns-clause-there
returns-clause-there c = gone_there
