use Rattle.std.specs.FinMap as map
use Rattle.sorted_map.specs.First.{goes_on}
use Rattle.monitor_core.proofs.laws.search_goes_on.Goals as goal

pub returns : goal.returns
returns g c = λ monitors passes from none. goes_on (λ reference monitor. passes monitor) from (map.entries monitors) none
