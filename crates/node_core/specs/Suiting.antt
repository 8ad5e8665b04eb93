-- A plan can be carried out at a node as it is: there is room for it, and what it says of a sweep is true.
use Rattle.std.specs.Prelude.{Option, None, Some}
use Rattle.dist_model.specs.Node as model
use Rattle.node_core.specs.declared.planned.Planned.{Planned}
use Rattle.node_plan.specs.Room.{Fits}
use Rattle.node_plan.specs.Seen.{seen}
use Rattle.node_plan.specs.declared.node.Node.{Node}
use Rattle.node_connections.specs.Ahead.{IsAhead}
use Rattle.node_connections.specs.declared.sweeping.Sweeping.{Sweeping}

abbrev pub IsAheadIfAny : Option Sweeping → model.Node → Type 0
IsAheadIfAny None m = Unit {0}
IsAheadIfAny (Some sweeping) m = IsAhead sweeping m

pub record Suits (node : Node) (planned : Planned) : Type 0 where
  pub fits : Fits node planned.plan
  pub ahead : IsAheadIfAny planned.sweeping (seen node)
