use Rattle.diagram.proofs.Sends.{fed_in_order}
use Rattle.diagram.proofs.laws.first_sent_is_first_taken.Goals as goal

pub returns : goal.returns
returns c = fed_in_order
