use Rattle.diagram.proofs.Downward.{all_down}
use Rattle.diagram.proofs.laws.no_arrow_goes_up.Goals as goal

pub returns : goal.returns
returns c = all_down
