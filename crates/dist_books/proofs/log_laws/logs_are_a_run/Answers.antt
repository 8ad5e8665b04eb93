use Rattle.dist_books.proofs.LogsAreOneRun.{logs_are_a_run}
use Rattle.dist_books.proofs.log_laws.logs_are_a_run.Goals as goal

pub returns : goal.returns
returns g c = logs_are_a_run g.N.Nodes.same g.N.Nodes.acts
