use Rattle.node_core.specs.Model.{model_of}
use Rattle.world_core.proofs.Planned.{comes_on}
use Rattle.world_core.proofs.meeting.arrive.Goals as goal

pub returns : goal.returns
returns c = λ names first h.
    let made = c.plan-made in
    comes_on names first c.args.trunk.now c.args.word (model_of c.args.node.now) (model_of made.new.node)
    (model_of c.take.new.node) made.new.planned.plan made.result
    c.args.lists.now c.take.new.lists c.take.result made.ensures.same (c.take.ensures names first c.args.word)
    (made.ensures.plan names first h)
