use Rattle.monitor_core.proofs.Departures.{get_added, added_held, get_removed, ended_held, not_ended, taken_by_end, others_kept}
use Rattle.monitor_core.proofs.laws.one_entry.Goals as goal

pub returns-clause-added : goal.returns-clause-added
returns-clause-added g c = λ seen_as. get_added

pub returns-clause-kept : goal.returns-clause-kept
returns-clause-kept g c = λ seen_as. added_held

pub returns-clause-removed : goal.returns-clause-removed
returns-clause-removed g c = λ seen_as. get_removed

pub returns-clause-ended : goal.returns-clause-ended
returns-clause-ended g c = ended_held

pub returns-clause-not_ended : goal.returns-clause-not_ended
returns-clause-not_ended g c = not_ended

pub returns-clause-taken : goal.returns-clause-taken
returns-clause-taken g c = taken_by_end

pub returns-clause-others : goal.returns-clause-others
returns-clause-others g c = others_kept
