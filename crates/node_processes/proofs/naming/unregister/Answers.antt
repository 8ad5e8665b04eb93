use Rattle.std.proofs.Common.{◌∙◌}
use Rattle.dist_model.specs.Calls.{giving_up, with_names}
use Rattle.dist_model.specs.Commands.{Accepts}
use Rattle.dist_model.specs.Naming.{without_holder}
use Rattle.dist_model.specs.declared.report.Answer.{Answer}
use Rattle.node_plan.specs.Seen.{seen}
use Rattle.node_plan.proofs.Outcomes.{planned}
use Rattle.node_processes.proofs.naming.unregister.Goals as goal

pub returns : goal.returns
returns c =
    let m = seen c.args.node.now in
    let p = c.args.process in
    let work = with_names m (without_holder m.names p) in
    let end = Accepts Answer.Done work in
    planned m _ Answer.Done work c.give_name.new.self (c.in_ok-acts.ensures.due (giving_up m p end) ∙ c.in_ok-gives_up.ensures end)
    (c.give_name.ensures.told m ∙ c.requires.told) (c.give_name.ensures.carries m c.requires.carries)
