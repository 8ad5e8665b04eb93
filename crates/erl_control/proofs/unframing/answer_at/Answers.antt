use Rattle.erl_control.specs.Parts.{item_in}
use Rattle.erl_control.proofs.Frames.{item_due}
use Rattle.erl_control.proofs.unframing.answer_at.Goals as goal

pub returns : goal.returns
returns c =
    item_due c.args.bytes.now c.in-Some.body.now (item_in c.in_ok-item.item)
    (rw c.in-Some.is at c.in_ok-body.ensures.some) c.in_ok-item.ensures.ok
