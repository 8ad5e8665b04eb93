use Rattle.dist_model.proofs.laws.reactions.Goals as goal
use Rattle.dist_model.proofs.Histories.{exits_tell_true_cause, exits_tell_true_cause_within, reacts_for_true_cause, throughout}
use Rattle.dist_model.specs.Fates.{ExitsTellTrueCause, ExitsTellTrueCauseWithin, ReactsForTrueCause}

pub returns-clause-cause : goal.returns-clause-cause
returns-clause-cause c = throughout ReactsForTrueCause reacts_for_true_cause

pub returns-clause-travelling : goal.returns-clause-travelling
returns-clause-travelling c = throughout ExitsTellTrueCause exits_tell_true_cause

pub returns-clause-within : goal.returns-clause-within
returns-clause-within c = throughout ExitsTellTrueCauseWithin exits_tell_true_cause_within
