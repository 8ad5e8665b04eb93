use Rattle.std.proofs.Common.{Some, None}
use Rattle.erl_control.proofs.Arms.{read_reg_send_before}
use Rattle.erl_control.proofs.control.reg_send_before_at.Goals as goal

pub returns-in_err-rest : goal.returns-in_err-rest
returns-in_err-rest c = rw c.from_residual.ensures (read_reg_send_before c.args.levels c.args.fields.now None c.in_err-rest.ensures)

pub returns : goal.returns
returns c = read_reg_send_before c.args.levels c.args.fields.now (Some _) c.in_ok-rest.ensures
