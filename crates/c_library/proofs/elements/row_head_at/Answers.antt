use Rattle.erl_control.proofs.Sequence.{no_opening, no_first, row_head}
use Rattle.c_library.proofs.elements.row_head_at.Goals as goal

pub returns-in_err-head : goal.returns-in_err-head
returns-in_err-head c = rw c.from_residual.ensures (no_opening c.args.bytes.now c.in_err-head.ensures)

pub returns-in_err-tag : goal.returns-in_err-tag
returns-in_err-tag c =
    rw c.from_residual-in_err-tag.ensures
    (no_first c.args.bytes.now (c.in_ok-head.head, c.in_ok-head.elements) c.in_ok-head.ensures c.in_err-tag.ensures)

pub returns : goal.returns
returns c =
    row_head c.args.bytes.now (c.in_ok-head.head, c.in_ok-head.elements)
    (c.in_ok-tag.tag, c.in_ok-tag.fields) c.in_ok-head.ensures c.in_ok-tag.ensures
