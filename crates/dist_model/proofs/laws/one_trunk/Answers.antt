use Rattle.dist_model.proofs.laws.one_trunk.Goals as goal
use Rattle.dist_model.proofs.Run.{always}
use Rattle.dist_model.proofs.Safety.{good_opening, no_up_beside_losing, one_trunk}
use Rattle.dist_model.specs.Claims.{NoUpBesideLosing, OneTrunk}

pub returns-clause-one : goal.returns-clause-one
returns-clause-one c = always OneTrunk good_opening one_trunk

pub returns-clause-swept : goal.returns-clause-swept
returns-clause-swept c = always NoUpBesideLosing good_opening no_up_beside_losing
