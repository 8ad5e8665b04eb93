use Rattle.std.proofs.Common.{arith, sym, ◌∙◌}
use Rattle.erl_control.specs.Parts.{answer_in}
use Rattle.erl_control.proofs.unframing.frame_at.Goals as goal

pub returns-clause-only : goal.returns-clause-only
returns-clause-only c = λ due d.
    let u = c.one_answer.ensures c.args.bytes.now (λ i. omega (arith, c.type_inv.bytes i)) in
    u.2 due d ∙ sym (u.2 (answer_in c.answer_at.result) c.answer_at.ensures)
