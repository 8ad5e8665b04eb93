use Rattle.dist_model.proofs.laws.order_is_kept.Goals as goal
use Rattle.dist_model.proofs.InOrder.{keeps_order, keeps_own_order}

pub returns-clause-kept : goal.returns-clause-kept
returns-clause-kept c = keeps_order

pub returns-clause-own : goal.returns-clause-own
returns-clause-own c = keeps_own_order
