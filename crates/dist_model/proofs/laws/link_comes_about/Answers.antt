use Rattle.dist_model.proofs.laws.link_comes_about.Goals as goal
use Rattle.dist_model.proofs.ExampleLinks.{linked_here, linked_quiet, linked_there}

pub returns-clause-here : goal.returns-clause-here
returns-clause-here c = linked_here

pub returns-clause-there : goal.returns-clause-there
returns-clause-there c = linked_there

pub returns-clause-quiet : goal.returns-clause-quiet
returns-clause-quiet c = linked_quiet
