use Rattle.erl_control.proofs.Answered.{no_head, no_fields, other_arity, some_text}
use Rattle.erl_control.proofs.control.text_at.Goals as goal

pub returns-in_err-head : goal.returns-in_err-head
returns-in_err-head c = rw c.from_residual.ensures (no_head c.args.text.now c.in_err-head.ensures)

pub returns-in_err-signal : goal.returns-in_err-signal
returns-in_err-signal c =
    rw c.from_residual-in_err-signal.ensures (no_fields c.args.text.now c.in_ok-head.head.arity c.in_ok-head.head.levels
    c.in_ok-head.tag c.in_ok-head.fields c.in_ok-head.ensures c.in_err-signal.ensures)

pub returns-then-arity-head : goal.returns-then-arity-head
returns-then-arity-head c =
    other_arity c.args.text.now c.in_ok-head.head.arity c.in_ok-head.head.levels c.in_ok-head.tag c.in_ok-head.fields
    ((c.in_ok-signal.signal, c.in_ok-signal.arity), c.in_ok-signal.rest) c.in_ok-head.ensures c.in_ok-signal.ensures
    c.if-arity-head.true

pub returns : goal.returns
returns c =
    some_text c.args.text.now c.in_ok-head.head.arity c.in_ok-head.head.levels c.in_ok-head.tag c.in_ok-head.fields
    ((c.in_ok-signal.signal, c.in_ok-signal.arity), c.in_ok-signal.rest) c.in_ok-head.ensures c.in_ok-signal.ensures
    c.if-arity-head.false
