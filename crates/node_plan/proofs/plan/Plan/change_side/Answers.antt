use Rattle.node_plan.proofs.Sided.{changed_side}
use Rattle.node_plan.proofs.plan.Plan.change_side.Goals as goal

pub returns-clause-makes : goal.returns-clause-makes
returns-clause-makes c = λ m w l h. changed_side c.args.self.now m w h c.args.change c.push.new.self l c.in_ok-push.ensures.items
