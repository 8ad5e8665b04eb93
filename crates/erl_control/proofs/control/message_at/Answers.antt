use Rattle.std.proofs.Common.{Some, None}
use Rattle.erl_control.proofs.Arms.{read_send}
use Rattle.erl_control.proofs.control.message_at.Goals as goal

pub returns-in_err-to : goal.returns-in_err-to
returns-in_err-to c = rw c.from_residual.ensures (read_send c.args.levels c.args.fields.now None c.in_err-to.ensures)

pub returns : goal.returns
returns c = read_send c.args.levels c.args.fields.now (Some _) c.in_ok-to.ensures
