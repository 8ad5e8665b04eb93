-- The conditions to apply a plan to a node.
use Rattle.std.specs.Prelude.{◌≡◌, ◌≤◌, ◌+◌, ◌-◌, ◌^◌, ◌<◌, length, true}
use Rattle.std.specs.VecDeque.{deque_len, deque_capacity}
use Rattle.dist_model.specs.Keeping.{CountsOwn, Steady}
use Rattle.node_tables.specs.Sides.{HasRouteRoom, HasSideRoom, sides}
use Rattle.node_plan.specs.RoomForChanges.{ChangeFits, MonitorFits, NameFits}
use Rattle.node_plan.specs.Suits.{LetsAll}
use Rattle.node_plan.specs.Carried.{IsSound}
use Rattle.node_plan.specs.Plans.{committed}
use Rattle.node_plan.specs.Seen.{seen}
use Rattle.node_plan.specs.declared.node.Node.{Node}
use Rattle.node_plan.specs.declared.plan.Plan.{Plan}

-- memory is reserved for all that the plan adds. The node after the plan is steady, and counts its own trunks
pub record Fits (node : Node) (plan : Plan) : Type 0 where
  pub sound : IsSound plan (seen node)
  pub steady : Steady (committed plan (seen node))
  pub counted : CountsOwn (committed plan (seen node))
  pub change : ChangeFits plan.change node.incarnation
  pub names : NameFits plan.change node.names
  pub watches : MonitorFits plan.watches node.watches
  pub watchers : MonitorFits plan.watchers node.watchers
  pub lets : LetsAll plan.sides.items (sides node.sides)
  pub side_room : HasSideRoom (length plan.sides.items) node.sides
  pub route_room : HasRouteRoom (length plan.sides.items) node.sides
  pub dialed : plan.dials ≡ true → node.dialed < 2 ^ 64 - 1
  pub local : deque_len node.local + length plan.local.items ≤ deque_capacity node.local
