-- The sides of a node, as the map that a node of the model keeps.
use Rattle.std.specs.Prelude.{ℕ, ◌+◌, ◌-◌, ◌≤◌, ◌++◌, List, min}
use Rattle.std.specs.FinMap as fm
use Rattle.std.specs.FinMap.{FinMap}
use Rattle.std.specs.Vec.{vec_len, vec_capacity}
use Rattle.conn_core.specs.declared.side.Side.{Side}
use Rattle.dist_model.specs.Sides.{TrunkSide}
use Rattle.erl_names.specs.Order.{trunk_cmp}
use Rattle.node_tables.specs.Runs.{spelled}
use Rattle.node_tables.specs.Standings.{entries_of}
use Rattle.node_tables.specs.declared.run.Run.{Run}
use Rattle.node_tables.specs.declared.sides.Sides.{Sides}

-- those that lie in memory, and those that the runs stand for
unfoldable pub sides_in : List Side → List Run → FinMap trunk_cmp TrunkSide
sides_in held gone = fm.from_entries (entries_of (held ++ spelled gone))

abbrev pub sides : Sides → FinMap trunk_cmp TrunkSide
sides it = sides_in it.held.items it.gone.items

-- so many more sides can come without memory, each of which may be gone later, and so many more routes
abbrev pub HasSideRoom : ℕ → Sides → Type 0
HasSideRoom more it = vec_len it.held + more ≤ min (vec_capacity it.held) (vec_capacity it.gone - vec_len it.gone)

abbrev pub HasRouteRoom : ℕ → Sides → Type 0
HasRouteRoom more it = more ≤ it.routes.room
