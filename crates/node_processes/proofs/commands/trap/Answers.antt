use Rattle.std.proofs.Common.{◌∙◌}
use Rattle.dist_model.specs.Calls.{with_life, trapping}
use Rattle.dist_model.specs.Commands.{Accepts}
use Rattle.std.specs.FinMap as fm
use Rattle.dist_model.specs.declared.report.Answer.{Answer}
use Rattle.node_plan.specs.Seen.{seen}
use Rattle.node_plan.proofs.Outcomes.{planned}
use Rattle.node_processes.proofs.commands.trap.Goals as goal

pub returns : goal.returns
returns c =
    let m = seen c.args.node.now in
    let p = c.args.process in
    let work = with_life m p (trapping (fm.get m.lives p) c.args.on) in
    planned m _ Answer.Done work c.trap.new.self (c.in_ok-acts.ensures.due (Accepts Answer.Done work))
    (c.trap.ensures.told m ∙ c.requires.told)
    (c.trap.ensures.carries m c.in_ok-acts.ensures.living c.requires.carries)
