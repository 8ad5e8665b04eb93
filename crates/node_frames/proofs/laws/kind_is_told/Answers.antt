use Rattle.node_frames.proofs.Told.{kind_is_told}
use Rattle.node_frames.proofs.laws.kind_is_told.Goals as goal

pub returns : goal.returns
returns c = kind_is_told
