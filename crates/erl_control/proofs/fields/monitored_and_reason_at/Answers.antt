use Rattle.erl_control.specs.Reading.{AreMonitored, IsTermText}
use Rattle.erl_control.proofs.Sequence.{first_none, second_none, both_some}
use Rattle.erl_control.proofs.fields.monitored_and_reason_at.Goals as goal

pub returns-in_err-fields : goal.returns-in_err-fields
returns-in_err-fields c =
    rw c.from_residual.ensures (first_none (AreMonitored c.args.levels) (IsTermText c.args.levels) c.args.bytes.now c.in_err-fields.ensures)

pub returns-in_err-reason : goal.returns-in_err-reason
returns-in_err-reason c =
    rw c.from_residual-in_err-reason.ensures
    (second_none (AreMonitored c.args.levels) (IsTermText c.args.levels) c.args.bytes.now _ c.in_ok-fields.ensures c.in_err-reason.ensures)

pub returns : goal.returns
returns c = both_some (AreMonitored c.args.levels) (IsTermText c.args.levels) c.args.bytes.now _ _ c.in_ok-fields.ensures c.in_ok-reason.ensures
