use Rattle.std.proofs.Common.{length, sym, arith, ◌∙◌, ◌+◌, ◌-◌, subst, List, refl}
use Rattle.std.proofs.lemmas.Bool.{eqb-true, eqb-false, false≢true}
use Rattle.std.proofs.lemmas.List.{take_all}
use Rattle.erl_term.specs.declared.term.Term.{Term}
use Rattle.erl_term.specs.View.{view, items_view}
use Rattle.erl_term.proofs.Terms.{view-tuple, view-improper, count-view}
use Rattle.erl_term.proofs.LeftOver.{LeftBehind, below_is, behind_more, behind_end, behind_all, no_head, tuple_leaves}
use Rattle.erl_term.proofs.LeftOver.{list_end, string_leaves, no_cells, list_leaves, no_end, no_cells_items, improper_leaves}
use Rattle.erl_term.proofs.room.+room.Goals as goal

-- tuples

pub room_after_other-returns-in-Tuple : goal.room_after_other-returns-in-Tuple
room_after_other-returns-in-Tuple t c =
    let a = c.in-Tuple in
    let e = below_is c.args.levels (omega arith) in
    rw (view-tuple c.args.term.now a.items a.is, e) (rw c.deref.ensures.value at c.room_after_tuple.ensures)

pub room_after_tuple-returns-in_err-left : goal.room_after_tuple-returns-in_err-left
room_after_tuple-returns-in_err-left t c =
    rw c.from_residual.ensures
    (no_head (items_view c.args.items.now) (c.args.below + 1) c.args.room
    (rw (c.tuple_head_len.ensures.len, sym (count-view c.args.items.now)) at c.in_err-left.ensures))

pub room_after_tuple-returns : goal.room_after_tuple-returns
room_after_tuple-returns t c =
    let head = rw (c.tuple_head_len.ensures.len, sym (count-view c.args.items.now)) at c.in_ok-left.ensures in
    tuple_leaves (items_view c.args.items.now) (c.args.below + 1) c.args.below c.args.room c.in_ok-left.left
    c.room_after_items.result refl head.0 head.1 c.room_after_items.ensures

-- proper lists

pub room_after_list-returns-then-is_empty : goal.room_after_list-returns-then-is_empty
room_after_list-returns-then-is_empty t c =
    list_end c.args.below c.args.room c.args.items.now c.checked_sub.result
    (eqb-true (length c.args.items.now) 0 (sym c.is_empty.ensures ∙ c.if-is_empty.true)) c.checked_sub.ensures

pub room_after_list-returns-then-is_string : goal.room_after_list-returns-then-is_string
room_after_list-returns-then-is_string t c =
    let some = eqb-false (length c.args.items.now) 0 (sym c.is_empty.ensures ∙ c.if-is_empty.false) in
    string_leaves c.args.below c.args.room c.args.items.now c.checked_sub-then-is_string.result (omega arith)
    (sym c.is_string.ensures ∙ c.if-is_string.true) c.checked_sub-then-is_string.ensures

pub room_after_list-returns-in_err-left : goal.room_after_list-returns-in_err-left
room_after_list-returns-in_err-left t c =
    let some = eqb-false (length c.args.items.now) 0 (sym c.is_empty.ensures ∙ c.if-is_empty.false) in
    rw c.from_residual.ensures (no_cells c.args.below c.args.room c.args.items.now (omega arith)
    (sym c.is_string.ensures ∙ c.if-is_string.false) c.in_err-left.ensures)

pub room_after_list-returns : goal.room_after_list-returns
room_after_list-returns t c =
    let some = eqb-false (length c.args.items.now) 0 (sym c.is_empty.ensures ∙ c.if-is_empty.false) in
    let head = c.in_ok-left.ensures in
    list_leaves c.args.below c.args.room c.in_ok-left.left c.args.items.now c.room_after_items.result (omega arith)
    (sym c.is_string.ensures ∙ c.if-is_string.false) head.0 head.1 c.room_after_items.ensures

-- lists with a tail

pub room_after_other-returns-then-not-can_end : goal.room_after_other-returns-then-not-can_end
room_after_other-returns-then-not-can_end t c =
    let a = c.in-List in
    let b = c.in-Some in
    rw (view-improper c.args.term.now a.items a.tail b.tail a.is b.is)
    (no_end a.items.items (view b.tail.value) c.args.levels c.args.room (λ h.
    false≢true (sym c.if-not-can_end.true ∙ c.can_end.ensures.1 (rw (c.deref-in-Some.ensures.value, c.deref-in-Some-2.ensures) h))))

pub room_after_other-returns-in_err-left-in-Some-2 : goal.room_after_other-returns-in_err-left-in-Some-2
room_after_other-returns-in_err-left-in-Some-2 t c =
    let a = c.in-List in
    let b = c.in-Some in
    let head = c.in_ok-left-in-Some.ensures in
    rw (view-improper c.args.term.now a.items a.tail b.tail a.is b.is, c.from_residual-in_err-left-in-Some-2.ensures)
    (no_cells_items (items_view a.items.items)
    (view b.tail.value) c.args.levels (c.args.levels - 1) c.args.room c.in_ok-left-in-Some.left
    (below_is c.args.levels (omega arith)) head.1
    (rw c.deref-in-Some-3.ensures.value at c.in_err-left-in-Some-2.ensures))

pub room_after_other-returns-in_ok-left-in-Some-2 : goal.room_after_other-returns-in_ok-left-in-Some-2
room_after_other-returns-in_ok-left-in-Some-2 t c =
    let a = c.in-List in
    let b = c.in-Some in
    let head = c.in_ok-left-in-Some.ensures in
    rw (view-improper c.args.term.now a.items a.tail b.tail a.is b.is)
    (improper_leaves a.items.items (view b.tail.value) c.args.levels (c.args.levels - 1) c.args.room c.in_ok-left-in-Some.left
    c.in_ok-left-in-Some-2.left c.room_after.result (below_is c.args.levels (omega arith))
    head.0 head.1
    (rw (c.deref-in-Some.ensures.value, c.deref-in-Some-2.ensures) at (c.can_end.ensures.0 c.if-not-can_end.false))
    (rw c.deref-in-Some-3.ensures.value at c.in_ok-left-in-Some-2.ensures)
    (rw c.deref-in-Some-4.ensures at c.room_after.ensures))

-- items

pub room_after_items-returns-then-not-has_count : goal.room_after_items-returns-then-not-has_count
room_after_items-returns-then-not-has_count t c =
    λ h.
    false≢true (sym c.if-not-has_count.true ∙ c.has_count.ensures.1 (let n = count-view c.args.items.now in let lt = h.0 in omega arith))

pub room_after_items-returns-in_err-left : goal.room_after_items-returns-in_err-left
room_after_items-returns-in_err-left t c =
    rw c.from_residual.ensures
    (λ h. behind_end c.args.levels c.args.room c.args.items.now c.loop-item.item-index c.item-item.result c.loop-item.left
    c.loop-item-test.true c.item-item.is c.loop-item.invariant c.in_err-left.ensures h.1 h.2 h.3)

pub room_after_items-loop-item-preserved : goal.room_after_items-loop-item-preserved
room_after_items-loop-item-preserved t c =
    behind_more c.args.levels c.args.room c.args.items.now c.loop-item.item-index c.item-item.result c.loop-item.left
    c.in_ok-left.left c.loop-item-test.true c.item-item.is c.loop-item.invariant c.in_ok-left.ensures

pub room_after_items-returns : goal.room_after_items-returns
room_after_items-returns t c =
    behind_all c.args.levels c.args.room (items_view c.args.items.now) c.loop-item.left
    (let n = count-view c.args.items.now in let lt = c.has_count.ensures.0 c.if-not-has_count.false in omega arith)
    (subst (λ (ts : List Term). LeftBehind c.args.levels c.args.room (items_view ts) c.loop-item.left)
    (take_all c.loop-item.item-index c.args.items.now (omega arith)) c.loop-item.invariant)
