use Rattle.dist_model.proofs.laws.nodes_stay_steady.Goals as goal
use Rattle.dist_model.proofs.KeepSteady.{steady_kept, steady_new}

pub returns-clause-new : goal.returns-clause-new
returns-clause-new c = steady_new

pub returns-clause-kept : goal.returns-clause-kept
returns-clause-kept c = steady_kept
