use Rattle.dist_model.specs.declared.report.Effect.{Effect}
use Rattle.node_plan.proofs.Posted.{carries_report}
use Rattle.node_plan.proofs.plan.Plan.reacted.Goals as goal

pub returns-clause-carries : goal.returns-clause-carries
returns-clause-carries c = λ m work h.
    let told = Effect.LinkExit c.args.process.now c.args.partner.now c.args.reason.now in
    carries_report c.args.self.now m work told c.push_link_exit.new.effects c.push_link_exit.result h tt c.push_link_exit.ensures
