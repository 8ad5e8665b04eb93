use Rattle.std.proofs.Common.{Some, refl}
use Rattle.script_explorer.proofs.explored.put_broken.Goals as goal

pub returns : goal.returns
returns c = let unmet = c.in_ok-put_unmet.ensures in (Some unmet.0, unmet.1, refl)
