use Rattle.std.proofs.Common.{◌∙◌, subst}
use Rattle.dist_model.specs.Calls.{fitting}
use Rattle.dist_model.specs.Commands.{Accepts}
use Rattle.dist_model.specs.Names.{Name}
use Rattle.dist_model.specs.Work.{at_work, post, to_node}
use Rattle.dist_model.specs.declared.report.Answer.{Answer}
use Rattle.erl_control.specs.declared.signal.Signal.{Signal}
use Rattle.node_plan.specs.Carried.{Carries}
use Rattle.node_plan.specs.Seen.{seen}
use Rattle.node_plan.proofs.Outcomes.{planned_by}
use Rattle.node_processes.proofs.commands.send_name.Goals as goal

pub returns : goal.returns
returns c =
    let m = seen c.args.node.now in
    let signal = Signal.RegSend c.args.from c.args.name c.args.message in
    let work = post (to_node c.args.target.now signal) (at_work m) in
    let end = fitting c.args.message (Accepts Answer.Done work) in
    let goes = c.in_ok-acts.ensures.due end ∙ c.in_ok-fits_in.ensures.due (Accepts Answer.Done work) in
    rw c.or_refuse.ensures (planned_by m _ Answer.Done work c.post.new.self c.post.result goes
    (c.post.ensures.told m ∙ c.requires.told)
    (subst (λ (at : Name). Carries m (post (to_node at signal) (at_work m)) c.post.new.self c.post.result) c.atom.ensures
    (c.post.ensures.carries (at_work m) c.requires.carries)))
