use Rattle.std.proofs.Common.{refl}
use Rattle.node_core.proofs.planned.Planned.taking.Goals as goal

pub returns : goal.returns
returns c = record { blank = c.new.ensures.blank; taken = c.new.ensures.taken refl; begins = refl }
