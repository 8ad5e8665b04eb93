use Rattle.dist_model.proofs.laws.downs_are_told.Goals as goal
use Rattle.dist_model.proofs.DownTerm.{told}
use Rattle.dist_model.proofs.DownForm.{is_down}

pub returns-clause-told : goal.returns-clause-told
returns-clause-told c = told

pub returns-clause-read : goal.returns-clause-read
returns-clause-read c = is_down
