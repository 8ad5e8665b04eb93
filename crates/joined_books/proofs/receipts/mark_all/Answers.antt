use Rattle.std.proofs.Common.{◌∙◌, ◌++◌, List, arith, length, refl, subst}
use Rattle.std.proofs.lemmas.List.{take_all}
use Rattle.joined_books.proofs.Marks.{marks_more, strange_here}
use Rattle.joined_books.specs.Marks.{AreMarked}
use Rattle.joined_books.specs.Receipts.{IsEnteredIn, position_of}
use Rattle.node_lock.specs.declared.seat.Asked.{Asked}
use Rattle.joined_books.proofs.receipts.mark_all.Goals as goal

pub returns-then-not-mark-clause-marked : goal.returns-then-not-mark-clause-marked
returns-then-not-mark-clause-marked c = λ before marked.
    strange_here position_of (IsEnteredIn c.args.entries.now) (length c.args.entries.now) c.loop-asked.marks.items before
    c.args.receipts.now
    c.loop-asked.asked-index
    c.asked-item.result c.loop-asked-test.true c.asked-item.is (c.loop-asked.invariant.1 before marked) (c.if-not-mark.ensures.refused refl)

pub returns-then-not-mark-clause-len : goal.returns-then-not-mark-clause-len
returns-then-not-mark-clause-len c = c.mark.ensures.len ∙ c.loop-asked.invariant.0

pub loop-asked-preserved : goal.loop-asked-preserved
loop-asked-preserved c = (
  c.mark.ensures.len ∙ c.loop-asked.invariant.0,
  λ before marked.
      marks_more position_of (IsEnteredIn c.args.entries.now) (length c.args.entries.now) c.loop-asked.marks.items c.mark.new.marks.items
      before c.args.receipts.now
      c.loop-asked.asked-index c.asked-item.result c.loop-asked-test.true c.asked-item.is (c.loop-asked.invariant.1 before marked)
      (c.if-not-mark.ensures.stands refl)
      (c.if-not-mark.ensures.within refl) (c.if-not-mark.ensures.free refl) (c.if-not-mark.ensures.marked refl),
)

pub returns-clause-marked : goal.returns-clause-marked
returns-clause-marked c = λ before marked.
    let P : List Asked → Type 0 = λ l. AreMarked position_of (IsEnteredIn c.args.entries.now) (length c.args.entries.now)
    c.loop-asked.marks.items (before ++ l) in
    subst P (take_all c.loop-asked.asked-index c.args.receipts.now (omega arith)) (c.loop-asked.invariant.1 before marked)
