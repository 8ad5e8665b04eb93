use Rattle.erl_control.proofs.Answered.{no_follow_head, no_before, other_before, some_followed}
use Rattle.erl_control.proofs.control.followed_at.Goals as goal

pub returns-in_err-head : goal.returns-in_err-head
returns-in_err-head c = rw c.from_residual.ensures (no_follow_head c.args.text.now c.in_err-head.ensures)

pub returns-in_err-arity : goal.returns-in_err-arity
returns-in_err-arity c =
    rw c.from_residual-in_err-arity.ensures (no_before c.args.text.now c.in_ok-head.head.arity c.in_ok-head.head.levels
    c.in_ok-head.tag c.in_ok-head.fields c.in_ok-head.ensures c.in_err-arity.ensures)

pub returns-then-arity-head : goal.returns-then-arity-head
returns-then-arity-head c =
    other_before c.args.text.now c.in_ok-head.head.arity c.in_ok-head.head.levels c.in_ok-head.tag c.in_ok-head.fields
    (c.in_ok-arity.arity, c.in_ok-arity.rest) c.in_ok-head.ensures c.in_ok-arity.ensures c.if-arity-head.true

pub returns : goal.returns
returns c =
    some_followed c.args.text.now c.in_ok-head.head.arity c.in_ok-head.head.levels c.in_ok-head.tag c.in_ok-head.fields
    (c.in_ok-arity.arity, c.in_ok-arity.rest) c.in_ok-head.ensures c.in_ok-arity.ensures c.if-arity-head.false
