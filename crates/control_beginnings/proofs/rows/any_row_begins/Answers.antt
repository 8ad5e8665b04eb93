use Rattle.std.proofs.Common.{sym, ◌∙◌, refl}
use Rattle.std.proofs.lemmas.Bool.{true≢false}
use Rattle.control_beginnings.proofs.Signals.{one_more, row_tag, one_starts, none_starts}
use Rattle.control_beginnings.proofs.rows.any_row_begins.Goals as goal

pub row_begins-requires : goal.row_begins-requires
row_begins-requires c = row_tag c.args.rows.now c.loop-row.row-index _ c.loop-row-test.true c.requires

pub returns-then-branch : goal.returns-then-branch
returns-then-branch c = (
  λ t. one_starts c.args.rows.now c.loop-row.row-index _ c.args.bytes.now c.loop-row-test.true
      (c.in_ok-row_begins.ensures.0 c.if-branch.true),
  λ s. refl,
)

pub loop-row-preserved : goal.loop-row-preserved
loop-row-preserved c =
    one_more c.args.rows.now c.loop-row.row-index _ c.args.bytes.now c.loop-row-test.true c.loop-row.invariant
    (λ s. true≢false (sym (c.in_ok-row_begins.ensures.1 s) ∙ c.if-branch.false))

pub returns : goal.returns
returns c = (
  λ t. absurd (true≢false (sym t)),
  λ s. absurd (none_starts c.args.rows.now c.loop-row.row-index c.args.bytes.now c.loop-row-test.false c.loop-row.invariant s),
)
