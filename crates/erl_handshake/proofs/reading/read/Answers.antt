use Rattle.std.proofs.Common.{◌+◌, length, Some, None, Ok, inl}
use Rattle.std.proofs.lemmas.Result.{err_from_is_err_and}
use Rattle.erl_handshake.proofs.Dues.{at_front, due_once, err_only, due_memory}
use Rattle.erl_handshake.proofs.reading.read.Goals as goal

pub returns-in_default-clause-only : goal.returns-in_default-clause-only
returns-in_default-clause-only c = λ due d. inl (due_once c.args.role c.args.bytes.now (Ok None) due c.in_default.ensures d)

pub returns-in_err-message-clause-only : goal.returns-in_err-message-clause-only
returns-in_err-message-clause-only c =
    let p = err_from_is_err_and c.from_residual.result c.from_residual.ensures.1 in
    rw (p.1, p.2) (λ due d. err_only c.args.role c.args.bytes.now c.in-Some.body.now c.in_err-message.field-0.0 due
    c.in-Some.ensures c.in_err-message.ensures d)

pub returns-in_err-message-clause-memory : goal.returns-in_err-message-clause-memory
returns-in_err-message-clause-memory c =
    let p = err_from_is_err_and c.from_residual.result c.from_residual.ensures.1 in
    rw (p.1, p.2)
    (due_memory c.args.role c.args.bytes.now c.in-Some.body.now c.in_err-message.field-0.0 c.in-Some.ensures c.in_err-message.ensures)

pub returns-clause-ok : goal.returns-clause-ok
returns-clause-ok c =
    at_front c.args.role c.in_ok-message.message c.args.bytes.now c.in-Some.body.now c.in-Some.ensures c.in_ok-message.ensures

pub returns-clause-only : goal.returns-clause-only
returns-clause-only c = λ due d.
    inl (due_once c.args.role c.args.bytes.now (Ok (Some (c.in_ok-message.message, length c.in-Some.body.now + 2))) due
    (at_front c.args.role c.in_ok-message.message c.args.bytes.now c.in-Some.body.now c.in-Some.ensures c.in_ok-message.ensures) d)
