use Rattle.std.proofs.Common.{◌∙◌, ◌∷◌, [], sym, ap, subst, length, arith, rules}
use Rattle.std.proofs.lemmas.Bool.{eqb-true, eqb-false}
use Rattle.std.proofs.lemmas.List.Elements.{All-get_or}
use Rattle.byteorder.specs.Endian.{big_bytes}
use Rattle.erl_term.specs.declared.term.Term.{Term, the_lemmas}
use Rattle.erl_term.specs.Canonical.{canonical_head, canonical_term, IsInRange}
use Rattle.erl_term.specs.View.{view}
use Rattle.erl_term.proofs.Terms.{view-tuple, view-list, view-improper, items_range}
use Rattle.erl_term.proofs.Lengths.{tuple_text, improper_text, text-nil, text-string, text-cells}
use Rattle.erl_term.proofs.Lengths.{length-tuple, length-list, length-string, length-improper, flat_item}
use Rattle.erl_term.proofs.Written.{two, behind_cells}
use Rattle.erl_term.proofs.writing.+write.Goals as goal

-- tuples

pub write_other-write_tuple-requires : goal.write_other-write_tuple-requires
write_other-write_tuple-requires t c =
    let a = c.in-Tuple in
    let v = view-tuple c.args.term.now a.items a.is in
    let r = items_range a.items.items (subst IsInRange v c.requires.range) in
    let room = rw v at c.requires.room in
    (search (rules, the_lemmas), rw c.deref.ensures.value (r.0, (r.1, room)))

pub write_tuple-write_tuple_head-requires-clause-room : goal.write_tuple-write_tuple_head-requires-clause-room
write_tuple-write_tuple_head-requires-clause-room t c = let l = length-tuple c.args.items.now in omega arith

pub write_tuple-write_items-requires : goal.write_tuple-write_items-requires
write_tuple-write_items-requires t c = let l = length-tuple c.args.items.now in (search rules, (c.requires.items, omega arith))

pub write_tuple-returns-clause-items : goal.write_tuple-returns-clause-items
write_tuple-returns-clause-items t c =
    two _ _ _ (canonical_head (length c.args.items.now)) _ _ c.write_tuple_head.ensures.items
    (tuple_text c.args.items.now) c.write_items.ensures.items

pub write_tuple-returns-clause-len : goal.write_tuple-returns-clause-len
write_tuple-returns-clause-len t c = let l = length-tuple c.args.items.now in omega arith

-- proper lists

pub write_other-write_list-requires : goal.write_other-write_list-requires
write_other-write_list-requires t c =
    let a = c.in-List in
    let v = view-list c.args.term.now a.items a.tail a.is c.in-None.is in
    let r = items_range a.items.items (subst IsInRange v c.requires.range) in
    let room = rw v at c.requires.room in
    (search (rules, the_lemmas), rw c.deref-in-None.ensures.value (r.0, (r.1, room)))

pub write_list-write_byte-requires : goal.write_list-write_byte-requires
write_list-write_byte-requires t c =
    let l = ap length (text-nil c.args.items.now (eqb-true (length c.args.items.now) 0 (sym c.is_empty.ensures ∙ c.if-is_empty.true))) in
    omega arith

pub write_list-returns-then-is_empty-clause-items : goal.write_list-returns-then-is_empty-clause-items
write_list-returns-then-is_empty-clause-items t c =
    let e = text-nil c.args.items.now (eqb-true (length c.args.items.now) 0 (sym c.is_empty.ensures ∙ c.if-is_empty.true)) in
    rw e c.write_byte.ensures.items

pub write_list-returns-then-is_empty-clause-len : goal.write_list-returns-then-is_empty-clause-len
write_list-returns-then-is_empty-clause-len t c =
    let l = ap length (text-nil c.args.items.now (eqb-true (length c.args.items.now) 0 (sym c.is_empty.ensures ∙ c.if-is_empty.true))) in
    omega arith

pub write_list-write_string-requires-clause-room : goal.write_list-write_string-requires-clause-room
write_list-write_string-requires-clause-room t c =
    let some = eqb-false (length c.args.items.now) 0 (sym c.is_empty.ensures ∙ c.if-is_empty.false) in
    let l = length-string c.args.items.now (omega arith) (sym c.is_string.ensures ∙ c.if-is_string.true) in
    omega arith

pub write_list-returns-then-is_string-clause-items : goal.write_list-returns-then-is_string-clause-items
write_list-returns-then-is_string-clause-items t c =
    let some = eqb-false (length c.args.items.now) 0 (sym c.is_empty.ensures ∙ c.if-is_empty.false) in
    let e = text-string c.args.items.now (omega arith) (sym c.is_string.ensures ∙ c.if-is_string.true) in
    rw e c.write_string.ensures.items

pub write_list-returns-then-is_string-clause-len : goal.write_list-returns-then-is_string-clause-len
write_list-returns-then-is_string-clause-len t c =
    let some = eqb-false (length c.args.items.now) 0 (sym c.is_empty.ensures ∙ c.if-is_empty.false) in
    let l = length-string c.args.items.now (omega arith) (sym c.is_string.ensures ∙ c.if-is_string.true) in
    omega arith

pub write_list-write_cells-requires : goal.write_list-write_cells-requires
write_list-write_cells-requires t c =
    let some = eqb-false (length c.args.items.now) 0 (sym c.is_empty.ensures ∙ c.if-is_empty.false) in
    let l = length-list c.args.items.now (omega arith) (sym c.is_string.ensures ∙ c.if-is_string.false) in
    (search rules, (c.requires.count, (c.requires.items, omega arith)))

pub write_list-write_byte-requires-2 : goal.write_list-write_byte-requires-2
write_list-write_byte-requires-2 t c =
    let some = eqb-false (length c.args.items.now) 0 (sym c.is_empty.ensures ∙ c.if-is_empty.false) in
    let l = length-list c.args.items.now (omega arith) (sym c.is_string.ensures ∙ c.if-is_string.false) in
    omega arith

pub write_list-returns-clause-items : goal.write_list-returns-clause-items
write_list-returns-clause-items t c =
    let some = eqb-false (length c.args.items.now) 0 (sym c.is_empty.ensures ∙ c.if-is_empty.false) in
    let e = text-cells c.args.items.now (omega arith) (sym c.is_string.ensures ∙ c.if-is_string.false) in
    rw e (behind_cells _ _ _ (108 ∷ big_bytes 4 (length c.args.items.now)) _
    (106 ∷ []) c.write_cells.ensures.items c.write_byte-2.ensures.items)

pub write_list-returns-clause-len : goal.write_list-returns-clause-len
write_list-returns-clause-len t c =
    let some = eqb-false (length c.args.items.now) 0 (sym c.is_empty.ensures ∙ c.if-is_empty.false) in
    let l = length-list c.args.items.now (omega arith) (sym c.is_string.ensures ∙ c.if-is_string.false) in
    omega arith

-- improper lists

pub write_other-write_cells-requires : goal.write_other-write_cells-requires
write_other-write_cells-requires t c =
    let a = c.in-List in
    let v = view-improper c.args.term.now a.items a.tail c.in-Some.tail a.is c.in-Some.is in
    let h = subst IsInRange v c.requires.range in
    let r = items_range a.items.items (h.1, h.3) in
    let room = rw v at c.requires.room in
    let l = length-improper a.items.items (view c.in-Some.tail.value) in
    (search (rules, the_lemmas), rw c.deref-in-Some.ensures.value (r.0, (r.1, omega arith)))

pub write_other-write_term-requires : goal.write_other-write_term-requires
write_other-write_term-requires t c =
    let a = c.in-List in
    let b = c.in-Some in
    let v = view-improper c.args.term.now a.items a.tail b.tail a.is b.is in
    let h = subst IsInRange v c.requires.range in
    let room = rw v at c.requires.room in
    let l = length-improper a.items.items (view b.tail.value) in
    let written = rw c.deref-in-Some.ensures.value at c.write_cells.ensures.len in
    (search (rules, the_lemmas), rw c.deref-in-Some-2.ensures (h.4, omega arith))

pub write_other-returns-in-Some-clause-items : goal.write_other-returns-in-Some-clause-items
write_other-returns-in-Some-clause-items t c =
    let a = c.in-List in
    let b = c.in-Some in
    rw (view-improper c.args.term.now a.items a.tail b.tail a.is b.is, improper_text a.items.items (view b.tail.value))
    (behind_cells _ _ _ (108 ∷ big_bytes 4 (length a.items.items)) _ _
    (rw c.deref-in-Some.ensures.value at c.write_cells.ensures.items)
    (rw c.deref-in-Some-2.ensures at c.write_term.ensures.items))

pub write_other-returns-in-Some-clause-len : goal.write_other-returns-in-Some-clause-len
write_other-returns-in-Some-clause-len t c =
    let a = c.in-List in
    let b = c.in-Some in
    let l = length-improper a.items.items (view b.tail.value) in
    let written = rw c.deref-in-Some.ensures.value at c.write_cells.ensures.len in
    let last = rw c.deref-in-Some-2.ensures at c.write_term.ensures.len in
    rw (view-improper c.args.term.now a.items a.tail b.tail a.is b.is) (omega arith)

-- items

pub write_items-write_term-requires : goal.write_items-write_term-requires
write_items-write_term-requires t c =
    let items = c.args.items.now in
    let i = c.loop-item.item-index in
    let x = c.item-item.result in
    let l = flat_item (λ t. canonical_term (view t)) items i x c.loop-item-test.true c.item-item.is in
    let range : IsInRange (view x) =
    subst (λ (y : Term). IsInRange (view y)) (sym c.item-item.is)
    (All-get_or (λ t. IsInRange (view t)) items i x c.loop-item-test.true c.requires.items) in
    (search (rules, the_lemmas), (range, omega arith))
