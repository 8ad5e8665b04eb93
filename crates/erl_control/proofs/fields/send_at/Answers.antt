use Rattle.erl_control.specs.Reading.{IsTermText, IsPidText}
use Rattle.erl_control.proofs.Sequence.{first_none, second_none, both_some}
use Rattle.erl_control.proofs.fields.send_at.Goals as goal

pub returns-in_err-unused : goal.returns-in_err-unused
returns-in_err-unused c =
    rw c.from_residual.ensures (first_none (IsTermText c.args.levels) (IsPidText c.args.levels) c.args.bytes.now c.in_err-unused.ensures)

pub returns-in_err-to : goal.returns-in_err-to
returns-in_err-to c =
    rw c.from_residual-in_err-to.ensures
    (second_none (IsTermText c.args.levels) (IsPidText c.args.levels) c.args.bytes.now _ c.in_ok-unused.ensures c.in_err-to.ensures)

pub returns : goal.returns
returns c = both_some (IsTermText c.args.levels) (IsPidText c.args.levels) c.args.bytes.now _ _ c.in_ok-unused.ensures c.in_ok-to.ensures
