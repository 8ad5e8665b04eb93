-- A plan that can be carried out at a node, which then still keeps what any node does.
use Rattle.std.specs.Prelude.{◌≡◌, ◌<◌, ◌-◌, ◌^◌, true}
use Rattle.dist_model.specs.Keeping.{CountsOwn, Steady}
use Rattle.dist_model.specs.Node.{Node}
use Rattle.node_plan.specs.Carried.{IsSound}
use Rattle.node_plan.specs.Suits.{LetsAll}
use Rattle.node_plan.specs.Plans.{committed}
use Rattle.node_plan.specs.declared.plan.Plan.{Plan}

pub record Stays (plan : Plan) (m : Node) : Type 0 where
  pub sound : IsSound plan m
  pub sides : LetsAll plan.sides.items m.sides
  pub dials : plan.dials ≡ true → m.dialed < 2 ^ 64 - 1
  pub steady : Steady (committed plan m)
  pub counted : CountsOwn (committed plan m)
