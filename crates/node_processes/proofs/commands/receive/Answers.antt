use Rattle.dist_model.specs.Calls.{with_life, without_first, first_message}
use Rattle.dist_model.specs.Commands.{Accepts}
use Rattle.std.specs.FinMap as fm
use Rattle.dist_model.specs.declared.report.Answer.{Answer}
use Rattle.node_plan.specs.Seen.{seen}
use Rattle.node_plan.proofs.Outcomes.{planned}
use Rattle.node_processes.proofs.commands.receive.Goals as goal

pub returns : goal.returns
returns c =
    let m = seen c.args.node.now in
    let p = c.args.process in
    let answer = Answer.Message (first_message (fm.get m.lives p)) in
    let work = with_life m p (without_first (fm.get m.lives p)) in
    planned m _ answer work c.take_first.new.self (c.in_ok-acts.ensures.due (Accepts answer work)) (c.take_first.ensures.told m)
    (c.take_first.ensures.carries m c.in_ok-acts.ensures.living c.requires.carries)
