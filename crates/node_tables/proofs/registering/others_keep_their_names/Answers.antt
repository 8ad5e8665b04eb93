use Rattle.node_tables.proofs.Registered.{none_kept, other_kept}
use Rattle.node_tables.proofs.registering.others_keep_their_names.Goals as goal

pub returns-clause-gone : goal.returns-clause-gone
returns-clause-gone c names process name = none_kept names process name

pub returns-clause-kept : goal.returns-clause-kept
returns-clause-kept c names process other name ne = other_kept names process other name ne
