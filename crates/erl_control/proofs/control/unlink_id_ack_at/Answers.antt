use Rattle.std.proofs.Common.{Some, None}
use Rattle.erl_control.proofs.Arms.{read_unlink_id_ack}
use Rattle.erl_control.proofs.control.unlink_id_ack_at.Goals as goal

pub returns-in_err-id : goal.returns-in_err-id
returns-in_err-id c = rw c.from_residual.ensures (read_unlink_id_ack c.args.levels c.args.fields.now None c.in_err-id.ensures)

pub returns : goal.returns
returns c = read_unlink_id_ack c.args.levels c.args.fields.now (Some _) c.in_ok-id.ensures
