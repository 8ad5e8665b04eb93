use Rattle.link_core.specs.Pair.{start}
use Rattle.link_core.proofs.Kept.{kept_swap}
use Rattle.link_core.proofs.Runs.{agree_at_rest, exit_of_ended, gone_run, keeps_run, kept_start, link_travels}
use Rattle.link_core.proofs.laws.two_processes.Goals as goal

pub returns-clause-gone_here : goal.returns-clause-gone_here
returns-clause-gone_here c = λ es. (gone_run es start).0

pub returns-clause-gone_there : goal.returns-clause-gone_there
returns-clause-gone_there c = λ es. (gone_run es start).1

pub returns-clause-agreement : goal.returns-clause-agreement
returns-clause-agreement c = λ es. (keeps_run es start kept_start).agree

pub returns-clause-pending_here : goal.returns-clause-pending_here
returns-clause-pending_here c = λ es. (keeps_run es start kept_start).one.waits

pub returns-clause-pending_there : goal.returns-clause-pending_there
returns-clause-pending_there c = λ es. (keeps_run es start kept_start).other.waits

pub returns-clause-link_here : goal.returns-clause-link_here
returns-clause-link_here c = λ es. link_travels _ _ (keeps_run es start kept_start)

pub returns-clause-link_there : goal.returns-clause-link_there
returns-clause-link_there c = λ es. link_travels _ _ (kept_swap _ _ (keeps_run es start kept_start))

pub returns-clause-ended_here : goal.returns-clause-ended_here
returns-clause-ended_here c = λ es. (keeps_run es start kept_start).one.idle

pub returns-clause-ended_there : goal.returns-clause-ended_there
returns-clause-ended_there c = λ es. (keeps_run es start kept_start).other.idle

pub returns-clause-exit_here : goal.returns-clause-exit_here
returns-clause-exit_here c = λ es. exit_of_ended _ _ (keeps_run es start kept_start)

pub returns-clause-exit_there : goal.returns-clause-exit_there
returns-clause-exit_there c = λ es. exit_of_ended _ _ (kept_swap _ _ (keeps_run es start kept_start))

pub returns-clause-rest : goal.returns-clause-rest
returns-clause-rest c = λ es. agree_at_rest _ (keeps_run es start kept_start)
