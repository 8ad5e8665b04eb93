use Rattle.dist_model.specs.Work.{to_node}
use Rattle.node_plan.specs.Seen.{seen}
use Rattle.node_plan.proofs.Posted.{carries_post}
use Rattle.node_plan.proofs.plan.Plan.post.Goals as goal

pub returns-clause-carries : goal.returns-clause-carries
returns-clause-carries c = λ work h.
    let m = seen c.args.node.now in
    carries_post c.args.self.now m work (to_node c.args.target.now c.args.signal) c.send.new.local c.send.new.effects h c.send.result c.requires c.send.ensures
