use Rattle.std.proofs.Common.{arith}
use Rattle.erl_term.proofs.TermRefs.{measured_front, measured_none}
use Rattle.erl_term.proofs.term_ref.term_at.Goals as goal

pub returns-in-Ok : goal.returns-in-Ok
returns-in-Ok c =
    measured_front c.args.levels c.args.bytes.now c.in-Ok.measure c.in-Ok.rest (λ i. omega (arith, c.type_inv.bytes i)) c.in-Ok.ensures

pub returns-in-Err : goal.returns-in-Err
returns-in-Err c = measured_none c.args.levels c.args.bytes.now c.in-Err.field-0 c.in-Err.ensures
