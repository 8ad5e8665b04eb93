use Rattle.erl_term.proofs.Behind.{head_behind, head_missing, no_head}
use Rattle.erl_term.proofs.parts.tuple_head_at.Goals as goal

pub returns-in_err-levels : goal.returns-in_err-levels
returns-in_err-levels c = let p = c.in_err-levels.ensures in rw c.from_residual.ensures (no_head c.args.levels c.args.bytes.now p.0 p.1)

pub returns-in_err-arity : goal.returns-in_err-arity
returns-in_err-arity c =
    rw c.from_residual-in_err-arity.ensures
    (head_missing c.args.levels _ c.args.bytes.now c.in_ok-levels.bytes.now c.in_ok-levels.ensures c.in_err-arity.ensures)

pub returns : goal.returns
returns c =
    head_behind c.args.levels c.in_ok-levels.levels c.args.bytes.now c.in_ok-levels.bytes.now c.in_ok-arity.arity
    c.in_ok-arity.elements c.in_ok-levels.ensures c.in_ok-arity.ensures
