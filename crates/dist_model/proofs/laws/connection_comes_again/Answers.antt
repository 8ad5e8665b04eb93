use Rattle.dist_model.proofs.laws.connection_comes_again.Goals as goal
use Rattle.dist_model.proofs.ExampleLinks.{connected_here, connected_quiet, connected_there, swept_here, swept_there}

pub returns-clause-connected : goal.returns-clause-connected
returns-clause-connected c = λ cookie own other. (connected_here cookie own other, connected_there cookie own other)

pub returns-clause-here : goal.returns-clause-here
returns-clause-here c = swept_here

pub returns-clause-there : goal.returns-clause-there
returns-clause-there c = swept_there

pub returns-clause-quiet : goal.returns-clause-quiet
returns-clause-quiet c = connected_quiet
