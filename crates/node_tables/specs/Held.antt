-- What an incarnation keeps, as the maps that a node of the model keeps.
use Rattle.std.specs.Prelude.{◌<◌, Option}
use Rattle.std.specs.FinMap.{FinMap}
use Rattle.std.specs.Vec.{vec_len, vec_capacity}
use Rattle.dist_model.specs.Names.{pair_cmp}
use Rattle.dist_model.specs.Node as model
use Rattle.erl_term.specs.Order.{pid_cmp}
use Rattle.erl_term.specs.declared.term.Pid.{Pid}
use Rattle.link_core.specs.declared.end.End.{End}
use Rattle.node_tables.specs.declared.life.Life.{Life}
use Rattle.node_tables.specs.Lives.{ends_in, life_in, lives_in}
use Rattle.node_tables.specs.declared.incarnation.Incarnation.{Incarnation}

abbrev pub lives : Incarnation → FinMap pid_cmp model.Life
lives it = lives_in it.mint it.held.items

abbrev pub ends : Incarnation → FinMap pair_cmp End
ends it = ends_in it.mint it.held.items

-- one more can be spawned without memory
abbrev pub HasRoom : Incarnation → Type 0
HasRoom it = vec_len it.held < vec_capacity it.held

-- what there is of a process
abbrev pub held : Incarnation → Pid → Option Life
held it p = life_in it.mint it.held.items p
