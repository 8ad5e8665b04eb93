use Rattle.std.proofs.Common.{arith}
use Rattle.erl_term.proofs.PartReaders.{head_some, head_none}
use Rattle.erl_term.proofs.parts.own_head_at.Goals as goal

pub returns-in-Ok : goal.returns-in-Ok
returns-in-Ok c = head_some c.args.bytes.now c.in-Ok.head (λ i. omega (arith, c.type_inv.bytes i)) c.in-Ok.ensures

pub returns-in-Err : goal.returns-in-Err
returns-in-Err c = head_none c.args.bytes.now c.in-Err.field-0 c.in-Err.ensures
