use Rattle.script_repeats.proofs.Alike.{ends_alike}
use Rattle.script_repeats.proofs.laws.scripts_end_as_their_runs.Goals as goal

pub returns : goal.returns
returns c = ends_alike
