use Rattle.std.proofs.Common.{Some, None}
use Rattle.erl_control.proofs.Arms.{read_payload_monitor_exit}
use Rattle.erl_control.proofs.control.payload_monitor_exit_at.Goals as goal

pub returns-in_err-target : goal.returns-in_err-target
returns-in_err-target c = rw c.from_residual.ensures (read_payload_monitor_exit c.args.levels c.args.fields.now None c.in_err-target.ensures)

pub returns-in-Pid : goal.returns-in-Pid
returns-in-Pid c = read_payload_monitor_exit c.args.levels c.args.fields.now (Some _) (rw c.in-Pid.is at c.in_ok-target.ensures)

pub returns-in-Name : goal.returns-in-Name
returns-in-Name c = read_payload_monitor_exit c.args.levels c.args.fields.now (Some _) (rw c.in-Name.is at c.in_ok-target.ensures)
