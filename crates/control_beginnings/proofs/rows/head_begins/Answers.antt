use Rattle.std.proofs.Common.{◌<◌, arith}
use Rattle.erl_term.specs.Parts.{IsHead}
use Rattle.control_beginnings.specs.Parts.{IsHeadOf}
use Rattle.control_beginnings.proofs.Passing.{tells_inside, tells_behind}
use Rattle.control_beginnings.proofs.Headings.{head_other, head_some}
use Rattle.control_beginnings.proofs.rows.head_begins.Goals as goal

pub returns-in-Inside : goal.returns-in-Inside
returns-in-Inside c =
    let n = c.args.arity in
    let lt : n < 256 = omega arith in
    tells_inside (IsHead n) (IsHeadOf n) (head_other n) (head_some n lt) 63 c.args.bytes.now (λ b h. h) (λ b h. h) c.in-Inside.ensures

pub returns-in-Behind : goal.returns-in-Behind
returns-in-Behind c =
    let n = c.args.arity in
    let lt : n < 256 = omega arith in
    tells_behind (IsHead n) (IsHeadOf n) (head_other n) (head_some n lt) 63 c.args.bytes.now (λ b h. h) (λ b h. h) c.in-Behind.text
    c.own_head_begins.result c.in-Behind.ensures c.own_head_begins.ensures
