use Rattle.std.proofs.Common.{◌≡◌, ap, ◌∙◌, rules}
use Rattle.dist_model.specs.Commands.{Accepts}
use Rattle.dist_model.specs.Node.{ends_of}
use Rattle.dist_model.specs.Work.{at_work}
use Rattle.dist_model.specs.declared.report.Answer.{Answer}
use Rattle.node_plan.specs.Seen.{seen}
use Rattle.node_plan.proofs.Outcomes.{lacks, planned}
use Rattle.node_processes.proofs.commands.links_of.Goals as goal

pub returns-in-Ok : goal.returns-in-Ok
returns-in-Ok c =
    let m = seen c.args.node.now in
    let answer = Answer.Links (ends_of m c.args.process.now) in
    let links : c.in-Ok.links ≡ ends_of m c.args.process.now = search rules in
    planned m _ answer (at_work m) c.answers.new.self (c.in_ok-acts.ensures.due (Accepts answer (at_work m)))
    (c.answers.ensures.told m ∙ ap Answer.Links links)
    (c.answers.ensures.carries m (at_work m) c.requires.carries)

pub returns-in-Err : goal.returns-in-Err
returns-in-Err c =
    let m = seen c.args.node.now in
    let answer = Answer.Links (ends_of m c.args.process.now) in
    lacks _ answer (at_work m) (c.in_ok-acts.ensures.due (Accepts answer (at_work m)))
