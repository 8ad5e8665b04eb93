use Rattle.std.proofs.Common.{Some}
use Rattle.dist_model.specs.Items.{Handshake}
use Rattle.dist_model.specs.declared.report.Effect.{Effect}
use Rattle.node_plan.proofs.Sided.{makes_report}
use Rattle.node_plan.proofs.plan.Plan.write.Goals as goal

pub returns-clause-makes : goal.returns-clause-makes
returns-clause-makes c = λ m w h.
    let told = Effect.Sent (Some c.args.trunk.now) c.args.peer.now (Handshake c.args.message.now) in
    let push = c.push_message in
    makes_report c.args.self.now m w h told push.new.effects push.result push.ensures.effects push.ensures.spelled
