use Rattle.dist_model.proofs.laws.dead_partner.Goals as goal
use Rattle.dist_model.proofs.ExampleLate.{dead_partner_tells}

pub returns : goal.returns
returns c = record { reacts = dead_partner_tells }
