use Rattle.dist_model.proofs.laws.link_is_taken_back.Goals as goal
use Rattle.dist_model.proofs.ExampleLinks.{unlinked_here, unlinked_there}

pub returns-clause-here : goal.returns-clause-here
returns-clause-here c = unlinked_here

pub returns-clause-there : goal.returns-clause-there
returns-clause-there c = unlinked_there
