use Rattle.std.proofs.Common.{arith}
use Rattle.monitor_core.proofs.Departures.{get_removed, from_nothing, gone, gone_by_end}
use Rattle.monitor_core.proofs.laws.leaves_once.Goals as goal

pub returns-clause-once : goal.returns-clause-once
returns-clause-once g c = λ seen_as calls r l. omega (arith, from_nothing seen_as calls r)

pub returns-clause-no_more_than_added : goal.returns-clause-no_more_than_added
returns-clause-no_more_than_added g c = from_nothing

pub returns-clause-removed : goal.returns-clause-removed
returns-clause-removed g c = λ seen_as m r calls h. gone seen_as r calls _ (get_removed m r) h

pub returns-clause-ended : goal.returns-clause-ended
returns-clause-ended g c = λ seen_as m r w calls t h. gone_by_end seen_as r w calls m t h
