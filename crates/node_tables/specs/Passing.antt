-- Which sides are sought.
use Rattle.std.specs.Prelude.{Bool, not}
use Rattle.dist_model.specs.Sides.{State, holds, is_dialing, is_gone, is_losing, is_parked, is_up, is_waiting}
use Rattle.node_tables.specs.declared.which.Which.{Which}
use Rattle.node_tables.specs.declared.which.Which.TheVariants.{Up, Losing, Parked, Waiting, Dialing, Holding, Open}

abbrev pub passes : Which → State → Bool
passes Up = is_up
passes Losing = is_losing
passes Parked = is_parked
passes Waiting = is_waiting
passes Dialing = is_dialing
passes Holding = holds
passes Open = λ state. not (is_gone state)
