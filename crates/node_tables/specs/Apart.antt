-- The connections that are gone are others than those of which the sides lie in memory.
use Rattle.std.specs.Prelude.{◌≡◌, List, Option, None, true, is_some}
use Rattle.std.specs.Option.{option_map, option_or}
use Rattle.std.specs.FinMap.{find}
use Rattle.conn_core.specs.declared.side.Side.{Side}
use Rattle.dist_model.specs.Sides.{Gone, TrunkSide, in_state}
use Rattle.erl_names.specs.Order.{trunk_cmp}
use Rattle.erl_names.specs.declared.trunk.TrunkId.{TrunkId}
use Rattle.node_tables.specs.Runs.{gone_at}
use Rattle.node_tables.specs.Standings.{entries_of}
use Rattle.node_tables.specs.declared.run.Run.{Run}

abbrev pub AreApart : List Side → List Run → Type 0
AreApart held gone = (trunk : TrunkId) → is_some (find trunk_cmp trunk (entries_of held)) ≡ true → gone_at gone trunk ≡ None

-- the sides of all connections, were they gone
abbrev pub gone_side : List Side → List Run → TrunkId → Option TrunkSide
gone_side held gone trunk = option_map (in_state Gone) (option_or (find trunk_cmp trunk (entries_of held)) (gone_at gone trunk))

-- of all connections, were they gone, the sides are the same
abbrev pub AreBuried : List Side → List Run → List Side → List Run → Type 0
AreBuried held gone left more = (trunk : TrunkId) → gone_side left more trunk ≡ gone_side held gone trunk
