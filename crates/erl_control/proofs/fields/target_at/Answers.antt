use Rattle.erl_control.proofs.Sequence.{target_pid, target_name, target_none}
use Rattle.erl_control.proofs.fields.target_at.Goals as goal

pub returns-in-Some : goal.returns-in-Some
returns-in-Some c = target_pid c.args.levels c.args.bytes.now (c.in-Some.pid, c.in-Some.rest) c.in-Some.ensures

pub returns-in_err-name : goal.returns-in_err-name
returns-in_err-name c =
    rw c.from_residual.ensures (target_none c.args.levels c.args.bytes.now c.in_default.ensures c.in_err-name.ensures)

pub returns : goal.returns
returns c = target_name c.args.levels c.args.bytes.now (c.in_ok-name.name, c.in_ok-name.rest) c.in_default.ensures c.in_ok-name.ensures
