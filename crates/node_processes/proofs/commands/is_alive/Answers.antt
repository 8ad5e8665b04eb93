use Rattle.std.proofs.Common.{ap, ◌∙◌}
use Rattle.dist_model.specs.Node.{living}
use Rattle.dist_model.specs.Work.{at_work}
use Rattle.dist_model.specs.declared.report.Answer.{Answer}
use Rattle.node_plan.specs.Seen.{seen}
use Rattle.node_plan.proofs.Outcomes.{planned}
use Rattle.node_processes.proofs.commands.is_alive.Goals as goal

pub returns : goal.returns
returns c =
    let m = seen c.args.node.now in
    let answer = Answer.Alive (living m c.args.process.now) in
    planned m _ answer (at_work m) c.answers.new.self Rattle.std.proofs.Common.refl
    (c.answers.ensures.told m ∙ ap Answer.Alive c.is_living.ensures)
    (c.answers.ensures.carries m (at_work m) c.requires.carries)
