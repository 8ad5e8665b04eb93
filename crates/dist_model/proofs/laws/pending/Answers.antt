use Rattle.dist_model.proofs.laws.pending.Goals as goal
use Rattle.dist_model.proofs.Run.{always}
use Rattle.dist_model.proofs.Safety.{good_opening, pending, pending_within}
use Rattle.dist_model.specs.Claims.{PendingOnItsWay, PendingWithin}

pub returns-clause-connected : goal.returns-clause-connected
returns-clause-connected c = always PendingOnItsWay good_opening pending

pub returns-clause-within : goal.returns-clause-within
returns-clause-within c = always PendingWithin good_opening pending_within
