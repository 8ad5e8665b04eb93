use Rattle.std.proofs.Common.{Some, None}
use Rattle.erl_control.proofs.Arms.{read_demonitor}
use Rattle.erl_control.proofs.control.demonitor_at.Goals as goal

pub returns-in_err-from : goal.returns-in_err-from
returns-in_err-from c = rw c.from_residual.ensures (read_demonitor c.args.levels c.args.fields.now None c.in_err-from.ensures)

pub returns-in-Pid : goal.returns-in-Pid
returns-in-Pid c = read_demonitor c.args.levels c.args.fields.now (Some _) (rw c.in-Pid.is at c.in_ok-from.ensures)

pub returns-in-Name : goal.returns-in-Name
returns-in-Name c = read_demonitor c.args.levels c.args.fields.now (Some _) (rw c.in-Name.is at c.in_ok-from.ensures)
