-- Whether a plan adds a record towards a peer.
-- (Reference Manual, Processes, Links and Monitors.)
use Rattle.std.specs.Prelude.{Bool, ◌||◌}
use Rattle.dist_model.specs.Names.{Name}
use Rattle.node_plan.specs.Registering.{changes_towards, registers_towards, watches_towards}
use Rattle.node_plan.specs.declared.plan.Plan.{Plan}

abbrev pub adds_towards : Name → Plan → Bool
adds_towards peer plan = changes_towards peer plan.change || (watches_towards peer plan.watches || registers_towards peer plan.watchers)
