use Rattle.std.proofs.Common.{refl}
use Rattle.monitor_core.proofs.Left.{is_first}
use Rattle.monitor_core.proofs.laws.first_is_least.Goals as goal

pub returns : goal.returns
returns g c = λ monitors passes. is_first monitors passes _ refl
