use Rattle.std.proofs.Common.{◌≡◌, rules, ◌++◌, ◌∷◌, []}
use Rattle.dist_model.specs.declared.report.Effect.{Effect}
use Rattle.node_plan.proofs.ProcessChanges.{carries_bury}
use Rattle.node_plan.proofs.plan.Plan.bury.Goals as goal

pub returns-in-Ok-clause-carries : goal.returns-in-Ok-clause-carries
returns-in-Ok-clause-carries c = λ m work alive h.
    let plan = c.args.self.now in
    let p = c.args.process.now in
    let effects = c.push_ended.new.effects in
    let told : effects.items ≡ plan.effects.items ++ Effect.Ended p c.args.reason ∷ [] = search rules in
    carries_bury plan m work p h c.requires alive c.set_life.new.self effects c.args.reason c.set_life.result told c.set_life.ensures.ok
