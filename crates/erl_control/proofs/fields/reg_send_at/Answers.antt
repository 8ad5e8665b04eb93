use Rattle.erl_control.specs.Reading.{IsPair, IsPidText, IsTermText, IsNameText}
use Rattle.erl_control.proofs.Sequence.{first_none, second_none, both_some}
use Rattle.erl_control.proofs.fields.reg_send_at.Goals as goal

pub returns-in_err-from : goal.returns-in_err-from
returns-in_err-from c =
    let l = c.args.levels in
    rw c.from_residual.ensures
    (first_none (IsPair (IsPidText l) (IsTermText l)) (IsNameText l) c.args.bytes.now
    (first_none (IsPidText l) (IsTermText l) c.args.bytes.now c.in_err-from.ensures))

pub returns-in_err-unused : goal.returns-in_err-unused
returns-in_err-unused c =
    let l = c.args.levels in
    rw c.from_residual-in_err-unused.ensures
    (first_none (IsPair (IsPidText l) (IsTermText l)) (IsNameText l) c.args.bytes.now
    (second_none (IsPidText l) (IsTermText l) c.args.bytes.now _ c.in_ok-from.ensures c.in_err-unused.ensures))

pub returns-in_err-name : goal.returns-in_err-name
returns-in_err-name c =
    let l = c.args.levels in
    rw c.from_residual-in_err-name.ensures
    (second_none (IsPair (IsPidText l) (IsTermText l)) (IsNameText l) c.args.bytes.now _
    (both_some (IsPidText l) (IsTermText l) c.args.bytes.now _ _ c.in_ok-from.ensures c.in_ok-unused.ensures) c.in_err-name.ensures)

pub returns : goal.returns
returns c =
    let l = c.args.levels in
    both_some (IsPair (IsPidText l) (IsTermText l)) (IsNameText l) c.args.bytes.now _ _
    (both_some (IsPidText l) (IsTermText l) c.args.bytes.now _ _ c.in_ok-from.ensures c.in_ok-unused.ensures) c.in_ok-name.ensures
