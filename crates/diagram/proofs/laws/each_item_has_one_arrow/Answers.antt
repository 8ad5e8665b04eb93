use Rattle.diagram.proofs.Sends.{one_arrow_each}
use Rattle.diagram.proofs.laws.each_item_has_one_arrow.Goals as goal

pub returns : goal.returns
returns c = one_arrow_each
