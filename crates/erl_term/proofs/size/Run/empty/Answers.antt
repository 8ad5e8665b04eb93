use Rattle.erl_term.proofs.Sizes.{no_run}
use Rattle.erl_term.proofs.size.Run.empty.Goals as goal

pub returns : goal.returns
returns c = no_run
