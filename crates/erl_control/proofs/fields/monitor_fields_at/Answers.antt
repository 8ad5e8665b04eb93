use Rattle.erl_control.specs.Reading.{IsPair, IsPidText, IsTargetText, IsReferenceText}
use Rattle.erl_control.proofs.Sequence.{first_none, second_none, both_some}
use Rattle.erl_control.proofs.fields.monitor_fields_at.Goals as goal

pub returns-in_err-from : goal.returns-in_err-from
returns-in_err-from c =
    let l = c.args.levels in
    rw c.from_residual.ensures
    (first_none (IsPair (IsPidText l) (IsTargetText l)) (IsReferenceText l) c.args.bytes.now
    (first_none (IsPidText l) (IsTargetText l) c.args.bytes.now c.in_err-from.ensures))

pub returns-in_err-to : goal.returns-in_err-to
returns-in_err-to c =
    let l = c.args.levels in
    rw c.from_residual-in_err-to.ensures
    (first_none (IsPair (IsPidText l) (IsTargetText l)) (IsReferenceText l) c.args.bytes.now
    (second_none (IsPidText l) (IsTargetText l) c.args.bytes.now _ c.in_ok-from.ensures c.in_err-to.ensures))

pub returns-in_err-reference : goal.returns-in_err-reference
returns-in_err-reference c =
    let l = c.args.levels in
    rw c.from_residual-in_err-reference.ensures
    (second_none (IsPair (IsPidText l) (IsTargetText l)) (IsReferenceText l) c.args.bytes.now _
    (both_some (IsPidText l) (IsTargetText l) c.args.bytes.now _ _ c.in_ok-from.ensures c.in_ok-to.ensures) c.in_err-reference.ensures)

pub returns : goal.returns
returns c =
    let l = c.args.levels in
    both_some (IsPair (IsPidText l) (IsTargetText l)) (IsReferenceText l) c.args.bytes.now _ _
    (both_some (IsPidText l) (IsTargetText l) c.args.bytes.now _ _ c.in_ok-from.ensures c.in_ok-to.ensures) c.in_ok-reference.ensures
