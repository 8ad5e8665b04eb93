use Rattle.erl_control.specs.Reading.{IsPidText}
use Rattle.erl_control.proofs.Sequence.{first_none, second_none, both_some}
use Rattle.erl_control.proofs.fields.pids_at.Goals as goal

pub returns-in_err-from : goal.returns-in_err-from
returns-in_err-from c =
    rw c.from_residual.ensures (first_none (IsPidText c.args.levels) (IsPidText c.args.levels) c.args.bytes.now c.in_err-from.ensures)

pub returns-in_err-to : goal.returns-in_err-to
returns-in_err-to c =
    rw c.from_residual-in_err-to.ensures
    (second_none (IsPidText c.args.levels) (IsPidText c.args.levels) c.args.bytes.now _ c.in_ok-from.ensures c.in_err-to.ensures)

pub returns : goal.returns
returns c = both_some (IsPidText c.args.levels) (IsPidText c.args.levels) c.args.bytes.now _ _ c.in_ok-from.ensures c.in_ok-to.ensures
