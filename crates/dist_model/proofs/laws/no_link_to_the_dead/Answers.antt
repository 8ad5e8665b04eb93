use Rattle.dist_model.proofs.laws.no_link_to_the_dead.Goals as goal
use Rattle.dist_model.proofs.Run.{always}
use Rattle.dist_model.proofs.Safety.{good_opening, no_link_to_itself, no_link_to_the_dead}
use Rattle.dist_model.specs.Claims.{NoLinkToItself, NoLinkToTheDead}

pub returns-clause-quiet : goal.returns-clause-quiet
returns-clause-quiet c = always NoLinkToTheDead good_opening no_link_to_the_dead

pub returns-clause-itself : goal.returns-clause-itself
returns-clause-itself c = always NoLinkToItself good_opening no_link_to_itself
