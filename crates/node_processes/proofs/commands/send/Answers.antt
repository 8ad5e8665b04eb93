use Rattle.std.proofs.Common.{◌∙◌}
use Rattle.dist_model.specs.Calls.{fitting, toward}
use Rattle.dist_model.specs.Commands.{Accepts}
use Rattle.dist_model.specs.Work.{at_work, post, to_pid}
use Rattle.dist_model.specs.declared.report.Answer.{Answer}
use Rattle.erl_control.specs.declared.signal.Signal.{Signal}
use Rattle.node_plan.specs.Seen.{seen}
use Rattle.node_plan.proofs.Outcomes.{planned_by}
use Rattle.node_processes.proofs.commands.send.Goals as goal

pub returns : goal.returns
returns c =
    let m = seen c.args.node.now in
    let work = post (to_pid c.args.to (Signal.Send c.args.to c.args.message)) (at_work m) in
    let end = fitting c.args.message (Accepts Answer.Done work) in
    let goes =
    c.in_ok-acts.ensures.due (toward m c.args.to end) ∙ c.in_ok-aims_at.ensures end
    ∙ c.in_ok-fits_in.ensures.due (Accepts Answer.Done work) in
    rw c.or_refuse.ensures (planned_by m _ Answer.Done work c.post_message.new.plan c.post_message.result goes
    (c.post_message.ensures.told m ∙ c.requires.told) (c.post_message.ensures.carries (at_work m) c.requires.carries))
