use Rattle.erl_control.specs.Reading.{ArePids}
use Rattle.erl_term.specs.Spelling.{IsSpelling}
use Rattle.erl_control.proofs.Sequence.{first_none, second_none, both_some}
use Rattle.erl_control.proofs.fields.pids_and_payload_at.Goals as goal

pub returns-in_err-pids : goal.returns-in_err-pids
returns-in_err-pids c =
    rw c.from_residual.ensures (first_none (ArePids c.args.levels) (IsSpelling 64) c.args.bytes.now c.in_err-pids.ensures)

pub returns-in_err-reason : goal.returns-in_err-reason
returns-in_err-reason c =
    rw c.from_residual-in_err-reason.ensures
    (second_none (ArePids c.args.levels) (IsSpelling 64) c.args.bytes.now _ c.in_ok-pids.ensures c.in_err-reason.ensures)

pub returns : goal.returns
returns c = both_some (ArePids c.args.levels) (IsSpelling 64) c.args.bytes.now _ _ c.in_ok-pids.ensures c.in_ok-reason.ensures
