use Rattle.std.proofs.Common.{length, map, arith, rules, tests}
use Rattle.std.proofs.lemmas.Result.{err_from_is_err_and}
use Rattle.erl_term.specs.View.{view, items_view}
use Rattle.script_terms.specs.Reading.{term_at, separated_at, cells_at}
use Rattle.script_terms.proofs.Separated.{goes_on, closes, bad_one, bad_next, bad_mark, bad_end}
use Rattle.script_terms.proofs.Cells.{cells_item, cells_list, cells_start, cells_end, cells_tail, tail_bad, item_bad, step_bad, cells_none}
use Rattle.script_terms.proofs.Tails.{tail_no_list}
use Rattle.script_terms.proofs.ItemsBuilt.{items_push, views_push, fails_by, improper_is}
use Rattle.script_terms.proofs.Leaves.{term_bad, term_leaf, term_none_tuple, term_none_list, term_tuple, term_list}
use Rattle.script_terms.proofs.reading.+read.Goals as goal
use Rattle.script_terms.proofs.reading.+read.Goals.{cells_of-in-Item, cells_of-in-List}

pub cells_of-loop-init : goal.cells_of-loop-init
cells_of-loop-init t c = (
  omega arith,
  λ look knows. rw c.new-items.ensures.items (cells_start (term_at look c.args.brackets) (length c.args.bytes.now) c.args.bytes.now),
)

pub cells_of-returns-in_err-item : goal.cells_of-returns-in_err-item
cells_of-returns-in_err-item t c = λ look knows.
    let p = err_from_is_err_and c.from_residual.result c.from_residual.ensures.1 in
    let one = term_at look c.args.brackets in
    let n = length c.args.bytes.now in
    let h = c.loop.invariant.1 look knows in
    rw (p.1, p.2) (fails_by c.in_err-item.field-0.0 (one c.loop.rest.now) (cells_at one n
    c.args.bytes.now) (c.in_err-item.ensures look knows) (λ f e. item_bad one (items_view c.loop.items.items)
    c.loop.opened n c.loop.counter c.loop.rest.now f (cells_at one n c.args.bytes.now) c.loop-test.true e h))

pub cells_of-returns-in_err-step : goal.cells_of-returns-in_err-step
cells_of-returns-in_err-step t c = λ look knows.
    let p = err_from_is_err_and c.from_residual-in_err-step.result c.from_residual-in_err-step.ensures.1 in
    let one = term_at look c.args.brackets in
    let n = length c.args.bytes.now in
    rw (p.1, p.2) (step_bad one (items_view c.loop.items.items) c.loop.opened n c.loop.counter c.loop.rest.now
    (view c.in_ok-item.item) c.in_ok-item.after.now c.in_err-step.field-0.0
    (cells_at one n c.args.bytes.now) c.loop-test.true (c.in_ok-item.ensures look knows) c.in_err-step.ensures
    (c.loop.invariant.1 look knows))

pub cells_of-returns-in_err-after-in-End : goal.cells_of-returns-in_err-after-in-End
cells_of-returns-in_err-after-in-End t c = λ look knows.
    let p = err_from_is_err_and c.from_residual-in_err-after-in-End.result c.from_residual-in_err-after-in-End.ensures.1 in
    let one = term_at look c.args.brackets in
    let n = length c.args.bytes.now in
    rw (p.1, p.2) (cells_end one (items_view c.loop.items.items) c.loop.opened n c.loop.counter c.loop.rest.now
    (view c.in_ok-item.item) c.in_ok-item.after.now c.in_ok-step.after.now _
    (cells_at one n c.args.bytes.now) c.loop-test.true (c.in_ok-item.ensures look knows)
    (rw c.in-End.is at c.in_ok-step.ensures) c.in_err-after-in-End.ensures (c.loop.invariant.1 look knows))

pub cells_of-returns-in-End : goal.cells_of-returns-in-End
cells_of-returns-in-End t c = λ look knows.
    let one = term_at look c.args.brackets in
    let n = length c.args.bytes.now in
    let all = items_push c.loop.items.items c.push.new.self.items c.in_ok-item.item c.in_ok-push.ensures.items in
    rw (c.list.ensures, all) (cells_end one (items_view c.loop.items.items) c.loop.opened n c.loop.counter c.loop.rest.now
    (view c.in_ok-item.item) c.in_ok-item.after.now c.in_ok-step.after.now _
    (cells_at one n c.args.bytes.now) c.loop-test.true (c.in_ok-item.ensures look knows)
    (rw c.in-End.is at c.in_ok-step.ensures) c.in_ok-after-in-End.ensures (c.loop.invariant.1 look knows))

pub cells_of-returns-in_err-tail-in-Tail : goal.cells_of-returns-in_err-tail-in-Tail
cells_of-returns-in_err-tail-in-Tail t c = λ look knows.
    let p = err_from_is_err_and c.from_residual-in_err-tail-in-Tail.result c.from_residual-in_err-tail-in-Tail.ensures.1 in
    let one = term_at look c.args.brackets in
    let n = length c.args.bytes.now in
    let step = rw c.in-Tail.is at c.in_ok-step.ensures in
    rw (p.1, p.2) (fails_by c.in_err-tail-in-Tail.field-0.0 (one c.in_ok-step.after.now) (cells_at one n
    c.args.bytes.now) (c.in_err-tail-in-Tail.ensures look knows) (λ f e. tail_bad one (items_view c.loop.items.items)
    c.loop.opened n c.loop.counter c.loop.rest.now (view c.in_ok-item.item) c.in_ok-item.after.now c.in_ok-step.after.now
    f (cells_at one n c.args.bytes.now) c.loop-test.true (c.in_ok-item.ensures look knows) step e
    (c.loop.invariant.1 look knows)))

pub cells_of-returns-in_err-after-in-Tail : goal.cells_of-returns-in_err-after-in-Tail
cells_of-returns-in_err-after-in-Tail t c = λ look knows.
    let p = err_from_is_err_and c.from_residual-in_err-after-in-Tail.result c.from_residual-in_err-after-in-Tail.ensures.1 in
    let one = term_at look c.args.brackets in
    let n = length c.args.bytes.now in
    rw (p.1, p.2) (cells_tail one (items_view c.loop.items.items) c.loop.opened n c.loop.counter c.loop.rest.now
    (view c.in_ok-item.item) c.in_ok-item.after.now c.in_ok-step.after.now
    (view c.in_ok-tail-in-Tail.tail) c.in_ok-tail-in-Tail.after.now _ (cells_at one n c.args.bytes.now) c.loop-test.true
    (c.in_ok-item.ensures look knows) (rw c.in-Tail.is at c.in_ok-step.ensures)
    (c.in_ok-tail-in-Tail.ensures look knows) c.in_err-after-in-Tail.ensures (c.loop.invariant.1 look knows))

pub cells_of-returns-in-Tail : goal.cells_of-returns-in-Tail
cells_of-returns-in-Tail t c = λ look knows.
    let one = term_at look c.args.brackets in
    let n = length c.args.bytes.now in
    let step = rw c.in-Tail.is at c.in_ok-step.ensures in
    let other =
    tail_no_list look c.args.brackets c.in_ok-item.after.now c.in_ok-step.after.now
    (view c.in_ok-tail-in-Tail.tail) c.in_ok-tail-in-Tail.after.now step (c.in_ok-tail-in-Tail.ensures look knows) in
    let is =
    improper_is c.loop.items.items c.push.new.self.items c.in_ok-item.item
    (view c.in_ok-tail-in-Tail.tail) c.in_ok-push.ensures.items other in
    rw (c.in_ok-improper-in-Tail.ensures, ← is) (cells_tail one
    (items_view c.loop.items.items) c.loop.opened n c.loop.counter c.loop.rest.now
    (view c.in_ok-item.item) c.in_ok-item.after.now c.in_ok-step.after.now
    (view c.in_ok-tail-in-Tail.tail) c.in_ok-tail-in-Tail.after.now _ (cells_at one n c.args.bytes.now) c.loop-test.true
    (c.in_ok-item.ensures look knows) step (c.in_ok-tail-in-Tail.ensures look knows) c.in_ok-after-in-Tail.ensures
    (c.loop.invariant.1 look knows))

pub cells_of-loop-preserved : goal.cells_of-loop-preserved
cells_of-loop-preserved t c =
    elim c.match-step.branch [
      | cells_of-in-Item w ↦ (
        omega arith,
        λ look knows.
            let one = term_at look c.args.brackets in
            let n = length c.args.bytes.now in
            rw (w.opened-is, items_push c.loop.items.items c.push.new.self.items c.in_ok-item.item c.in_ok-push.ensures.items)
            (cells_item one (items_view c.loop.items.items) c.loop.opened n c.loop.counter c.loop.rest.now
            (view c.in_ok-item.item) c.in_ok-item.after.now c.in_ok-step.after.now
            (cells_at one n c.args.bytes.now) c.loop-test.true (c.in_ok-item.ensures look knows)
            (rw w.in-Item.is at c.in_ok-step.ensures) (c.loop.invariant.1 look knows)),
      )
      | cells_of-in-List w ↦ (
        omega arith,
        λ look knows.
            let one = term_at look c.args.brackets in
            let n = length c.args.bytes.now in
            rw (w.opened-is, items_push c.loop.items.items c.push.new.self.items c.in_ok-item.item c.in_ok-push.ensures.items)
            (cells_list one (items_view c.loop.items.items) c.loop.opened n c.loop.counter c.loop.rest.now
            (view c.in_ok-item.item) c.in_ok-item.after.now c.in_ok-step.after.now
            (cells_at one n c.args.bytes.now) c.loop-test.true (c.in_ok-item.ensures look knows)
            (rw w.in-List.is at c.in_ok-step.ensures) (c.loop.invariant.1 look knows)),
      )
    ]

pub cells_of-returns : goal.cells_of-returns
cells_of-returns t c = λ look knows.
    let one = term_at look c.args.brackets in
    let n = length c.args.bytes.now in
    cells_none one (items_view c.loop.items.items) c.loop.opened n c.loop.counter c.loop.rest.now
    (cells_at one n c.args.bytes.now) c.loop-test.false (c.loop.invariant.1 look knows)

pub elements_of-returns-in_err-element : goal.elements_of-returns-in_err-element
elements_of-returns-in_err-element t c = λ look knows.
    let p = err_from_is_err_and c.from_residual.result c.from_residual.ensures.1 in
    let one = term_at look c.args.brackets in
    let n = length c.args.bytes.now in
    rw (p.1, p.2) (fails_by c.in_err-element.field-0.0 (one c.loop.rest.now) (separated_at one 125 n
    c.args.bytes.now) (c.in_err-element.ensures look knows) (λ f e. bad_one one 125 (map view c.loop.elements.items) n
    c.loop.counter c.loop.rest.now f (separated_at one 125 n c.args.bytes.now) c.loop-test.true e
    (c.loop.invariant look knows)))

pub elements_of-returns-in_err-mark : goal.elements_of-returns-in_err-mark
elements_of-returns-in_err-mark t c = λ look knows.
    let p = err_from_is_err_and c.from_residual-in_err-mark.result c.from_residual-in_err-mark.ensures.1 in
    let one = term_at look c.args.brackets in
    let n = length c.args.bytes.now in
    rw (p.1, p.2) (bad_next one 125 (map view c.loop.elements.items) n c.loop.counter c.loop.rest.now
    (view c.in_ok-element.element) c.in_ok-element.after.now c.in_err-mark.field-0.0
    (separated_at one 125 n c.args.bytes.now) c.loop-test.true (c.in_ok-element.ensures look knows) c.in_err-mark.ensures
    (c.loop.invariant look knows))

pub elements_of-returns-in-125 : goal.elements_of-returns-in-125
elements_of-returns-in-125 t c = λ look knows.
    let one = term_at look c.args.brackets in
    let n = length c.args.bytes.now in
    rw (views_push c.loop.elements.items c.push.new.self.items c.in_ok-element.element c.in_ok-push.ensures.items)
    (closes one 125 (map view c.loop.elements.items) n c.loop.counter c.loop.rest.now
    (view c.in_ok-element.element) c.in_ok-element.after.now c.in_ok-mark.mark c.in_ok-mark.after.now
    (separated_at one 125 n c.args.bytes.now) c.loop-test.true (c.in_ok-element.ensures look knows) c.in_ok-mark.ensures
    (search (rules, tests)) (search (rules, tests)) (c.loop.invariant look knows))

pub elements_of-returns-in_default : goal.elements_of-returns-in_default
elements_of-returns-in_default t c = λ look knows.
    let one = term_at look c.args.brackets in
    let n = length c.args.bytes.now in
    bad_mark one 125 (map view c.loop.elements.items) n c.loop.counter c.loop.rest.now
    (view c.in_ok-element.element) c.in_ok-element.after.now c.in_ok-mark.mark c.in_ok-mark.after.now
    (separated_at one 125 n c.args.bytes.now) c.loop-test.true (c.in_ok-element.ensures look knows) c.in_ok-mark.ensures
    (search (rules, tests)) (search (rules, tests)) (c.loop.invariant look knows)

pub elements_of-loop-preserved : goal.elements_of-loop-preserved
elements_of-loop-preserved t c = λ look knows.
    let one = term_at look c.args.brackets in
    let n = length c.args.bytes.now in
    rw (views_push c.loop.elements.items c.push.new.self.items c.in_ok-element.element c.in_ok-push.ensures.items)
    (goes_on one 125 (map view c.loop.elements.items) n c.loop.counter c.loop.rest.now
    (view c.in_ok-element.element) c.in_ok-element.after.now c.in_ok-mark.mark c.in_ok-mark.after.now
    (separated_at one 125 n c.args.bytes.now) c.loop-test.true (c.in_ok-element.ensures look knows) c.in_ok-mark.ensures
    (search (rules, tests)) (c.loop.invariant look knows))

pub elements_of-returns : goal.elements_of-returns
elements_of-returns t c = λ look knows.
    let one = term_at look c.args.brackets in
    let n = length c.args.bytes.now in
    bad_end one 125 (map view c.loop.elements.items) n c.loop.counter c.loop.rest.now
    (separated_at one 125 n c.args.bytes.now) c.loop-test.false (c.loop.invariant look knows)

pub value_of-returns-in_err-first : goal.value_of-returns-in_err-first
value_of-returns-in_err-first t c = λ look knows.
    let p = err_from_is_err_and c.from_residual.result c.from_residual.ensures.1 in
    rw (p.1, p.2) (term_bad look c.args.brackets c.args.bytes.now c.in_err-first.field-0.0 c.in_err-first.ensures)

pub value_of-returns-then-brackets-eq0 : goal.value_of-returns-then-brackets-eq0
value_of-returns-then-brackets-eq0 t c =
    λ look knows. term_none_tuple look c.args.brackets c.args.bytes.now c.in_ok-first.first c.in_ok-first.rest.now
    (search rules) c.in_ok-first.ensures (search (rules, tests))

pub value_of-returns-then-first-eq123 : goal.value_of-returns-then-first-eq123
value_of-returns-then-first-eq123 t c =
    λ look knows. rw (term_tuple look c.args.brackets c.args.bytes.now c.in_ok-first.first c.in_ok-first.rest.now
    (search rules) c.in_ok-first.ensures (search (rules, tests))) (c.tuple_of.ensures look knows)

pub value_of-returns-then-brackets-eq0-2 : goal.value_of-returns-then-brackets-eq0-2
value_of-returns-then-brackets-eq0-2 t c =
    λ look knows. term_none_list look c.args.brackets c.args.bytes.now c.in_ok-first.first c.in_ok-first.rest.now
    (search rules) c.in_ok-first.ensures (search (rules, tests)) (search (rules, tests))

pub value_of-returns-then-first-eq91 : goal.value_of-returns-then-first-eq91
value_of-returns-then-first-eq91 t c =
    λ look knows. rw (term_list look c.args.brackets c.args.bytes.now c.in_ok-first.first c.in_ok-first.rest.now
    (search rules) c.in_ok-first.ensures (search (rules, tests)) (search (rules, tests))) (c.list_of.ensures look knows)

pub value_of-returns : goal.value_of-returns
value_of-returns t c =
    λ look knows. rw (term_leaf look c.args.brackets c.args.bytes.now c.in_ok-first.first c.in_ok-first.rest.now c.in_ok-first.ensures
    (search (rules, tests)) (search (rules, tests))) (c.leaf_of.ensures look knows)
