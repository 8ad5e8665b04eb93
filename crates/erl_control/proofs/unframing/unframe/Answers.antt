use Rattle.std.proofs.Common.{arith}
use Rattle.erl_control.proofs.Frames.{only_due}
use Rattle.erl_control.proofs.unframing.unframe.Goals as goal

pub returns-clause-only : goal.returns-clause-only
returns-clause-only c =
    only_due c.one_answer.ensures c.args.bytes.now
    (λ i. omega (arith, c.type_inv.bytes i)) c.answer_of.result c.answer_of.ensures.ok c.answer_of.ensures.err
