use Rattle.erl_control.specs.Reading.{IsIdText, ArePids}
use Rattle.erl_control.proofs.Sequence.{first_none, second_none, both_some}
use Rattle.erl_control.proofs.fields.id_and_pids_at.Goals as goal

pub returns-in_err-id : goal.returns-in_err-id
returns-in_err-id c =
    rw c.from_residual.ensures (first_none (IsIdText c.args.levels) (ArePids c.args.levels) c.args.bytes.now c.in_err-id.ensures)

pub returns-in_err-pids : goal.returns-in_err-pids
returns-in_err-pids c =
    rw c.from_residual-in_err-pids.ensures
    (second_none (IsIdText c.args.levels) (ArePids c.args.levels) c.args.bytes.now _ c.in_ok-id.ensures c.in_err-pids.ensures)

pub returns : goal.returns
returns c = both_some (IsIdText c.args.levels) (ArePids c.args.levels) c.args.bytes.now _ _ c.in_ok-id.ensures c.in_ok-pids.ensures
