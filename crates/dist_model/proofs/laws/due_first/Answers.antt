use Rattle.dist_model.proofs.laws.due_first.Goals as goal
use Rattle.dist_model.proofs.DueFirst.{due_first}

pub returns : goal.returns
returns c = record { first = due_first }
