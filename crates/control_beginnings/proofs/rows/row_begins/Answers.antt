use Rattle.std.proofs.Common.{◌≡◌, ◌<◌, arith, rules}
use Rattle.std.proofs.lemmas.Result.{IfOk-weaker}
use Rattle.control_beginnings.specs.Parts.{AreElements, IsHeadOf, IsRowText}
use Rattle.control_beginnings.proofs.Passing.{tells_none}
use Rattle.control_beginnings.proofs.Sequences.{tells_iff}
use Rattle.control_beginnings.proofs.Headings.{row_open, row_flat, row_other, row_behind}
use Rattle.control_beginnings.proofs.rows.row_begins.Goals as goal
use Rattle.control_beginnings.proofs.rows.row_begins.Goals.{then-head-eq0-via-then-head-eq0, then-head-eq0-via-else-head-eq0+then-head-from}

pub returns-in_default : goal.returns-in_default
returns-in_default c =
    let row = c.args.row.now in
    let lt : row.tag < 256 = search rules in
    tells_iff (IsHeadOf row.arity) (IsRowText row.arity row.tag row.parts.now) c.head_begins.result c.args.bytes.now c.args.bytes.now
    (row_open row.arity row.tag row.parts.now c.args.bytes.now lt c.in_default.ensures) c.head_begins.ensures

pub returns-then-head-eq0 : goal.returns-then-head-eq0
returns-then-head-eq0 c =
    let row = c.args.row.now in
    elim c.then-head-eq0.branch [
      | then-head-eq0-via-then-head-eq0 w ↦
          tells_none (IsRowText row.arity row.tag row.parts.now) c.args.bytes.now
          (row_flat row.arity row.tag row.parts.now c.args.bytes.now c.in-Some.elements.now c.in-Some.head c.in-Some.ensures.takes w.if-head-eq0.true)
      | then-head-eq0-via-else-head-eq0+then-head-from w ↦
          tells_none (IsRowText row.arity row.tag row.parts.now) c.args.bytes.now
          (row_other row.arity row.tag row.parts.now c.args.bytes.now c.in-Some.elements.now c.in-Some.head c.in-Some.ensures.takes
          (λ e. let n = w.if-head-from.true in let f = w.from.ensures in absurd (omega arith)))
    ]

pub returns : goal.returns
returns c =
    let row = c.args.row.now in
    let e : c.in-Some.head.arity ≡ row.arity = search rules in
    IfOk-weaker c.elements_begin.result _ _
    (λ begins h. tells_iff (AreElements c.in-Some.head.levels row.tag row.parts.now) (IsRowText row.arity row.tag row.parts.now) begins
    c.in-Some.elements.now c.args.bytes.now
    (row_behind row.arity row.tag row.parts.now c.args.bytes.now c.in-Some.elements.now c.in-Some.head c.in-Some.ensures.takes e) h)
    c.elements_begin.ensures
