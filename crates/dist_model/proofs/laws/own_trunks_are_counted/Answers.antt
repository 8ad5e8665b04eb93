use Rattle.dist_model.proofs.laws.own_trunks_are_counted.Goals as goal
use Rattle.dist_model.proofs.KeepCounted.{counted_kept, counted_new, counted_stays}

pub returns-clause-new : goal.returns-clause-new
returns-clause-new c = counted_new

pub returns-clause-kept : goal.returns-clause-kept
returns-clause-kept c = λ names n e a o k others h. counted_kept names n e a o h k others

pub returns-clause-stays : goal.returns-clause-stays
returns-clause-stays c = λ names n e a o k h. counted_stays names n e a o h k
