use Rattle.dist_model.proofs.laws.calls_follow_the_table.Goals as goal
use Rattle.dist_model.proofs.Tabled.{inactive_stays, link_follows, linked_end, unlink_follows, unlink_used_up, unlinked_end}

pub returns-clause-link : goal.returns-clause-link
returns-clause-link c = link_follows

pub returns-clause-linked : goal.returns-clause-linked
returns-clause-linked c = linked_end

pub returns-clause-unlink : goal.returns-clause-unlink
returns-clause-unlink c = unlink_follows

pub returns-clause-unlinked : goal.returns-clause-unlinked
returns-clause-unlinked c = unlinked_end

pub returns-clause-used_up : goal.returns-clause-used_up
returns-clause-used_up c = unlink_used_up

pub returns-clause-inactive : goal.returns-clause-inactive
returns-clause-inactive c = inactive_stays
