use Rattle.node_plan.proofs.ProcessChanges.{carries_end}
use Rattle.node_plan.proofs.plan.Plan.change_end.Goals as goal

pub returns-clause-carries : goal.returns-clause-carries
returns-clause-carries c = λ m work alive h.
    let p = c.args.process.now in
    let q = c.args.partner.now in
    let set = c.set_end in
    carries_end c.args.self.now m work p q c.args.how set.new.self set.result h c.requires alive set.ensures.ok
