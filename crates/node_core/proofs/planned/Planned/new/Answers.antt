use Rattle.std.proofs.Common.{refl}
use Rattle.node_core.proofs.planned.Planned.new.Goals as goal

pub returns : goal.returns
returns c = record { blank = c.new.ensures.blank; told = c.new.ensures.told; carries = c.new.ensures.carries refl; begins = refl }
