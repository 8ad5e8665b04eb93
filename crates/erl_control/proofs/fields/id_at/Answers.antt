use Rattle.std.proofs.Common.{arith}
use Rattle.erl_control.proofs.Sequence.{id_no_natural, id_zero, id_some}
use Rattle.erl_control.proofs.fields.id_at.Goals as goal

pub returns-in_err-id : goal.returns-in_err-id
returns-in_err-id c = rw c.from_residual.ensures (id_no_natural c.args.levels c.args.bytes.now c.in_err-id.ensures)

pub returns-then-id-eq0 : goal.returns-then-id-eq0
returns-then-id-eq0 c = id_zero c.args.levels c.args.bytes.now (c.in_ok-id.id, c.in_ok-id.rest) c.in_ok-id.ensures (omega arith)

pub returns : goal.returns
returns c = id_some c.args.levels c.args.bytes.now (c.in_ok-id.id, c.in_ok-id.rest) c.in_ok-id.ensures (omega arith)
