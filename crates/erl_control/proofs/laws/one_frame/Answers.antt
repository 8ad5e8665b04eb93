use Rattle.erl_control.proofs.Frames.{one_made}
use Rattle.erl_control.proofs.laws.one_frame.Goals as goal

pub returns : goal.returns
returns c = one_made c.one_spelling.ensures
