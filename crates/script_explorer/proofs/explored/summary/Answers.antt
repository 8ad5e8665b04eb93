use Rattle.script_explorer.proofs.Summary.{summary_is}
use Rattle.script_explorer.proofs.explored.summary.Goals as goal

pub returns : goal.returns
returns c = summary_is _ _ _ _ _ _ c.in_ok-text.ensures c.in_ok-put_bound.ensures
