use Rattle.std.proofs.Common.{Some, None}
use Rattle.erl_control.proofs.Arms.{read_reg_send}
use Rattle.erl_control.proofs.control.named_message_at.Goals as goal

pub returns-in_err-from : goal.returns-in_err-from
returns-in_err-from c = rw c.from_residual.ensures (read_reg_send c.args.levels c.args.fields.now None c.in_err-from.ensures)

pub returns : goal.returns
returns c = read_reg_send c.args.levels c.args.fields.now (Some _) c.in_ok-from.ensures
