-- The sides that are sought.
use Rattle.std.specs.Prelude.{Bool, ◌&&◌}
use Rattle.conn_core.specs.declared.side.Side.{Side}
use Rattle.dist_model.specs.Names.{Name, same_name}
use Rattle.dist_model.specs.Sides.{State}
use Rattle.node_tables.specs.Standings.{state_of}

abbrev pub is_sought : (State → Bool) → Name → Side → Bool
is_sought test peer side = same_name side.peer peer && test (state_of side.standing)
