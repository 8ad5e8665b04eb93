use Rattle.std.proofs.Common.{◌∙◌}
use Rattle.dist_model.specs.Calls.{fitting}
use Rattle.dist_model.specs.Commands.{Accepts}
use Rattle.dist_model.specs.Work.{at_work}
use Rattle.dist_model.specs.declared.report.Answer.{Answer}
use Rattle.node_plan.specs.Seen.{seen}
use Rattle.node_plan.proofs.Outcomes.{planned_by}
use Rattle.node_processes.proofs.commands.exit_self.Goals as goal

pub returns : goal.returns
returns c =
    let m = seen c.args.node.now in
    let work = Rattle.dist_model.specs.Exits.end_process c.args.process.now c.args.reason (at_work m) in
    let goes =
    c.in_ok-acts.ensures.due (fitting c.args.reason (Accepts Answer.Done work))
    ∙ c.in_ok-fits_in.ensures.due (Accepts Answer.Done work) in
    rw c.or_refuse.ensures (planned_by m _ Answer.Done work c.finish.new.plan c.finish.result goes
    (c.finish.ensures.told m ∙ c.requires.told) (c.finish.ensures.carries (at_work m) c.requires.carries))
