use Rattle.std.proofs.Common.{◌≡◌, ◌<◌, ◌+◌, ◌-◌, ◌++◌, ◌∷◌, [], eqb, true, leb, length, refl, sym, ap, ◌∙◌, arith, rules, tests}
use Rattle.std.proofs.lemmas.Bool.{le-leb}
use Rattle.std.proofs.lemmas.Result.{err_from_is_err_and}
use Rattle.erl_term.specs.Data.{list, tuple, no_items, joined, count}
use Rattle.erl_term.specs.Canonical.{levels_of}
use Rattle.script_terms.specs.Reading.{term_at, separated_at, cells_at, tuple_at}
use Rattle.script_terms.proofs.Separated.{goes_on, closes, bad_one, bad_next, bad_mark, bad_end}
use Rattle.script_terms.proofs.Cells.{and_one, cells_start, cells_end, cells_tail, tail_bad, item_bad, step_bad, cells_none}
use Rattle.script_terms.proofs.Shapes.{list_fits, improper_fits, joined_no_byte, fit_push}
use Rattle.script_terms.proofs.ItemsRead.{one_more, more_items, more_list}
use Rattle.script_terms.proofs.Tails.{tail_no_list}
use Rattle.script_terms.proofs.Leaves.{term_bad, term_leaf, term_none_tuple, term_none_list, term_tuple, term_list, got, one_fits}
use Rattle.script_terms.proofs.checking.+check.Goals as goal
use Rattle.script_terms.proofs.checking.+check.Goals.{check_cells-in-Item, check_cells-in-List}

pub check_cells-loop-index-init : goal.check_cells-loop-index-init
check_cells-loop-index-init t c = (
  omega arith,
  λ look knows. record {
    items = no_items;
    reading = cells_start (term_at look c.args.brackets) (length c.args.bytes.now) c.args.bytes.now;
    fit = sym (le-leb 0 c.args.brackets (omega arith));
    are_bytes = refl;
    counted = refl;
  },
)

pub check_cells-returns-in_err-item : goal.check_cells-returns-in_err-item
check_cells-returns-in_err-item t c = λ look knows.
    let p = err_from_is_err_and c.from_residual.result c.from_residual.ensures.1 in
    let one = term_at look c.args.brackets in
    let n = length c.args.bytes.now in
    let h = c.loop-index.invariant.1 look knows in
    rw (p.1, p.2) (item_bad one h.items c.loop-index.opened n c.loop-index.index c.loop-index.rest.now c.in_err-item.field-0.0
    (cells_at one n c.args.bytes.now) c.loop-index-test.true (c.in_err-item.ensures look knows) h.reading)

pub check_cells-returns-in_err-step : goal.check_cells-returns-in_err-step
check_cells-returns-in_err-step t c = λ look knows.
    let p = err_from_is_err_and c.from_residual-in_err-step.result c.from_residual-in_err-step.ensures.1 in
    let one = term_at look c.args.brackets in
    let n = length c.args.bytes.now in
    let h = c.loop-index.invariant.1 look knows in
    let d = c.in_ok-item.ensures look knows in
    rw (p.1, p.2) (step_bad one h.items c.loop-index.opened n c.loop-index.index c.loop-index.rest.now d.0.0
    c.in_ok-item.after.now c.in_err-step.field-0.0 (cells_at one n c.args.bytes.now) c.loop-index-test.true
    (got _ d.0 c.in_ok-item.after.now d.1 d.2.0) c.in_err-step.ensures h.reading)

pub check_cells-returns-in_err-after-in-End : goal.check_cells-returns-in_err-after-in-End
check_cells-returns-in_err-after-in-End t c = λ look knows.
    let p = err_from_is_err_and c.from_residual-in_err-after-in-End.result c.from_residual-in_err-after-in-End.ensures.1 in
    let one = term_at look c.args.brackets in
    let n = length c.args.bytes.now in
    let h = c.loop-index.invariant.1 look knows in
    let d = c.in_ok-item.ensures look knows in
    rw (p.1, p.2) (cells_end one h.items c.loop-index.opened n c.loop-index.index c.loop-index.rest.now d.0.0
    c.in_ok-item.after.now c.in_ok-step.after.now _ (cells_at one n c.args.bytes.now) c.loop-index-test.true
    (got _ d.0 c.in_ok-item.after.now d.1 d.2.0) (rw c.in-End.is at c.in_ok-step.ensures) c.in_err-after-in-End.ensures
    h.reading)

pub check_cells-returns-in-End : goal.check_cells-returns-in-End
check_cells-returns-in-End t c = λ look knows.
    let one = term_at look c.args.brackets in
    let n = length c.args.bytes.now in
    let h = c.loop-index.invariant.1 look knows in
    let d = c.in_ok-item.ensures look knows in
    let more =
    one_more one c.args.brackets c.args.bytes.now c.loop-index.index c.loop-index.opened c.loop-index.rest.now
    c.loop-index.row h d.0.0 c.in_ok-item.item c.and-row.result d.2.1
    (record { fit = c.and-row.ensures.fit; are_bytes = c.and-row.ensures.are_bytes }) in (
      (list (and_one h.items d.0.0), c.in_ok-after-in-End.after.now),
      cells_end one h.items c.loop-index.opened n c.loop-index.index c.loop-index.rest.now d.0.0 c.in_ok-item.after.now
          c.in_ok-step.after.now _ (cells_at one n c.args.bytes.now) c.loop-index-test.true
          (got _ d.0 c.in_ok-item.after.now d.1 d.2.0) (rw c.in-End.is at c.in_ok-step.ensures) c.in_ok-after-in-End.ensures
          h.reading,
      (
        refl,
        c.list_fits.ensures ∙ list_fits (and_one h.items d.0.0) c.args.brackets c.loop-index.index c.and-row.result.fit
            c.and-row.result.are_bytes more.fit more.are_bytes more.counted,
        refl,
      ),
    )

pub check_cells-returns-in_err-tail-in-Tail : goal.check_cells-returns-in_err-tail-in-Tail
check_cells-returns-in_err-tail-in-Tail t c = λ look knows.
    let p = err_from_is_err_and c.from_residual-in_err-tail-in-Tail.result c.from_residual-in_err-tail-in-Tail.ensures.1 in
    let one = term_at look c.args.brackets in
    let n = length c.args.bytes.now in
    let h = c.loop-index.invariant.1 look knows in
    let d = c.in_ok-item.ensures look knows in
    rw (p.1, p.2) (tail_bad one h.items c.loop-index.opened n c.loop-index.index c.loop-index.rest.now d.0.0
    c.in_ok-item.after.now c.in_ok-step.after.now c.in_err-tail-in-Tail.field-0.0 (cells_at one n c.args.bytes.now)
    c.loop-index-test.true (got _ d.0 c.in_ok-item.after.now d.1 d.2.0) (rw c.in-Tail.is at c.in_ok-step.ensures)
    (c.in_err-tail-in-Tail.ensures look knows) h.reading)

pub check_cells-returns-in_err-after-in-Tail : goal.check_cells-returns-in_err-after-in-Tail
check_cells-returns-in_err-after-in-Tail t c = λ look knows.
    let p = err_from_is_err_and c.from_residual-in_err-after-in-Tail.result c.from_residual-in_err-after-in-Tail.ensures.1 in
    let one = term_at look c.args.brackets in
    let n = length c.args.bytes.now in
    let h = c.loop-index.invariant.1 look knows in
    let d = c.in_ok-item.ensures look knows in
    let u = c.in_ok-tail-in-Tail.ensures look knows in
    rw (p.1, p.2) (cells_tail one h.items c.loop-index.opened n c.loop-index.index c.loop-index.rest.now d.0.0
    c.in_ok-item.after.now c.in_ok-step.after.now u.0.0 c.in_ok-tail-in-Tail.after.now _ (cells_at one n c.args.bytes.now)
    c.loop-index-test.true (got _ d.0 c.in_ok-item.after.now d.1 d.2.0) (rw c.in-Tail.is at c.in_ok-step.ensures)
    (got _ u.0 c.in_ok-tail-in-Tail.after.now u.1 u.2.0) c.in_err-after-in-Tail.ensures h.reading)

pub check_cells-returns-in-Tail : goal.check_cells-returns-in-Tail
check_cells-returns-in-Tail t c = λ look knows.
    let one = term_at look c.args.brackets in
    let n = length c.args.bytes.now in
    let h = c.loop-index.invariant.1 look knows in
    let d = c.in_ok-item.ensures look knows in
    let u = c.in_ok-tail-in-Tail.ensures look knows in
    let more =
    one_more one c.args.brackets c.args.bytes.now c.loop-index.index c.loop-index.opened c.loop-index.rest.now
    c.loop-index.row h d.0.0 c.in_ok-item.item c.and-row.result d.2.1
    (record { fit = c.and-row.ensures.fit; are_bytes = c.and-row.ensures.are_bytes }) in
    let step = rw c.in-Tail.is at c.in_ok-step.ensures in
    let read = got _ u.0 c.in_ok-tail-in-Tail.after.now u.1 u.2.0 in
    let some : 0 < count (and_one h.items d.0.0) = let k = more.counted in omega arith in
    let other =
    tail_no_list look c.args.brackets c.in_ok-item.after.now c.in_ok-step.after.now u.0.0 c.in_ok-tail-in-Tail.after.now step read in (
      (joined (and_one h.items d.0.0) u.0.0, c.in_ok-after-in-Tail.after.now),
      cells_tail one h.items c.loop-index.opened n c.loop-index.index c.loop-index.rest.now d.0.0 c.in_ok-item.after.now
          c.in_ok-step.after.now u.0.0 c.in_ok-tail-in-Tail.after.now _ (cells_at one n c.args.bytes.now)
          c.loop-index-test.true (got _ d.0 c.in_ok-item.after.now d.1 d.2.0) step read c.in_ok-after-in-Tail.ensures
          h.reading,
      (
        refl,
        c.improper_fits.ensures ∙ improper_fits
            (and_one h.items d.0.0) u.0.0 c.args.brackets c.and-row.result.fit c.in_ok-tail-in-Tail.tail.fits
            some other more.fit u.2.1.fits,
        joined_no_byte (and_one h.items d.0.0) u.0.0 some other,
      ),
    )

pub check_cells-loop-index-preserved : goal.check_cells-loop-index-preserved
check_cells-loop-index-preserved t c =
    elim c.match-step.branch [
      | check_cells-in-Item w ↦ (
        omega arith,
        λ look knows.
            let d = c.in_ok-item.ensures look knows in
            rw w.opened-is (more_items (term_at look c.args.brackets) c.args.brackets c.args.bytes.now c.loop-index.index
            c.loop-index.opened c.loop-index.rest.now c.loop-index.row d.0.0 c.in_ok-item.after.now c.in_ok-step.after.now
            c.in_ok-item.item c.and-row.result c.loop-index-test.true (got _ d.0 c.in_ok-item.after.now d.1 d.2.0)
            (rw w.in-Item.is at c.in_ok-step.ensures) d.2.1
            (record { fit = c.and-row.ensures.fit; are_bytes = c.and-row.ensures.are_bytes })
            (c.loop-index.invariant.1 look knows)),
      )
      | check_cells-in-List w ↦ (
        omega arith,
        λ look knows.
            let d = c.in_ok-item.ensures look knows in
            rw w.opened-is (more_list (term_at look c.args.brackets) c.args.brackets c.args.bytes.now c.loop-index.index
            c.loop-index.opened c.loop-index.rest.now c.loop-index.row d.0.0 c.in_ok-item.after.now c.in_ok-step.after.now
            c.in_ok-item.item c.and-row.result c.loop-index-test.true (got _ d.0 c.in_ok-item.after.now d.1 d.2.0)
            (rw w.in-List.is at c.in_ok-step.ensures) d.2.1
            (record { fit = c.and-row.ensures.fit; are_bytes = c.and-row.ensures.are_bytes })
            (c.loop-index.invariant.1 look knows)),
      )
    ]

pub check_cells-returns : goal.check_cells-returns
check_cells-returns t c = λ look knows.
    let one = term_at look c.args.brackets in
    let n = length c.args.bytes.now in
    let h = c.loop-index.invariant.1 look knows in
    cells_none one h.items c.loop-index.opened n c.loop-index.index c.loop-index.rest.now (cells_at one n c.args.bytes.now)
    (omega arith) h.reading

pub check_elements-returns-in_err-element : goal.check_elements-returns-in_err-element
check_elements-returns-in_err-element t c = λ look knows.
    let p = err_from_is_err_and c.from_residual.result c.from_residual.ensures.1 in
    let one = term_at look c.args.brackets in
    let n = length c.args.bytes.now in
    let h = c.loop.invariant look knows in
    rw (p.1, p.2) (bad_one one 125 h.0 n c.loop.counter c.loop.rest.now c.in_err-element.field-0.0
    (separated_at one 125 n c.args.bytes.now) c.loop-test.true (c.in_err-element.ensures look knows) h.1)

pub check_elements-returns-in_err-mark : goal.check_elements-returns-in_err-mark
check_elements-returns-in_err-mark t c = λ look knows.
    let p = err_from_is_err_and c.from_residual-in_err-mark.result c.from_residual-in_err-mark.ensures.1 in
    let one = term_at look c.args.brackets in
    let n = length c.args.bytes.now in
    let h = c.loop.invariant look knows in
    let d = c.in_ok-element.ensures look knows in
    rw (
      p.1,
      p.2,
    ) (bad_next one 125 h.0 n c.loop.counter c.loop.rest.now d.0.0 c.in_ok-element.after.now c.in_err-mark.field-0.0
    (separated_at one 125 n c.args.bytes.now) c.loop-test.true
    (got _ d.0 c.in_ok-element.after.now d.1 d.2.0) c.in_err-mark.ensures h.1)

pub check_elements-returns-in-125 : goal.check_elements-returns-in-125
check_elements-returns-in-125 t c = λ look knows.
    let one = term_at look c.args.brackets in
    let n = length c.args.bytes.now in
    let h = c.loop.invariant look knows in
    let d = c.in_ok-element.ensures look knows in (
      (h.0 ++ d.0.0 ∷ [], c.in_ok-mark.after.now),
      closes one 125 h.0 n c.loop.counter c.loop.rest.now d.0.0 c.in_ok-element.after.now c.in_ok-mark.mark c.in_ok-mark.after.now
          (separated_at one 125 n c.args.bytes.now) c.loop-test.true
          (got _ d.0 c.in_ok-element.after.now d.1 d.2.0) c.in_ok-mark.ensures (search (rules, tests))
          (search (rules, tests)) h.1,
      (refl, c.and-row.ensures.fit ∙ fit_push h.0 d.0.0 c.args.brackets c.loop.row.fit c.in_ok-element.element.fits h.2 d.2.1.fits),
    )

pub check_elements-returns-in_default : goal.check_elements-returns-in_default
check_elements-returns-in_default t c = λ look knows.
    let one = term_at look c.args.brackets in
    let n = length c.args.bytes.now in
    let h = c.loop.invariant look knows in
    let d = c.in_ok-element.ensures look knows in
    bad_mark one 125 h.0 n c.loop.counter c.loop.rest.now d.0.0 c.in_ok-element.after.now c.in_ok-mark.mark c.in_ok-mark.after.now
    (separated_at one 125 n c.args.bytes.now) c.loop-test.true
    (got _ d.0 c.in_ok-element.after.now d.1 d.2.0) c.in_ok-mark.ensures (search (rules, tests))
    (search (rules, tests)) h.1

pub check_elements-loop-preserved : goal.check_elements-loop-preserved
check_elements-loop-preserved t c = λ look knows.
    let one = term_at look c.args.brackets in
    let n = length c.args.bytes.now in
    let h = c.loop.invariant look knows in
    let d = c.in_ok-element.ensures look knows in (
      h.0 ++ d.0.0 ∷ [],
      goes_on one 125 h.0 n c.loop.counter c.loop.rest.now d.0.0 c.in_ok-element.after.now c.in_ok-mark.mark c.in_ok-mark.after.now
          (separated_at one 125 n c.args.bytes.now) c.loop-test.true
          (got _ d.0 c.in_ok-element.after.now d.1 d.2.0) c.in_ok-mark.ensures (search (rules, tests)) h.1,
      c.and-row.ensures.fit ∙ fit_push h.0 d.0.0 c.args.brackets c.loop.row.fit c.in_ok-element.element.fits h.2 d.2.1.fits,
    )

pub check_elements-returns : goal.check_elements-returns
check_elements-returns t c = λ look knows.
    let one = term_at look c.args.brackets in
    let n = length c.args.bytes.now in
    let h = c.loop.invariant look knows in
    bad_end one 125 h.0 n c.loop.counter c.loop.rest.now (separated_at one 125 n c.args.bytes.now) c.loop-test.false h.1

pub check_list-returns-then-first-eq93 : goal.check_list-returns-then-first-eq93
check_list-returns-then-first-eq93 t c = λ look knows.
    let e : eqb c.in_ok-first.first 93 ≡ true = search (rules, tests) in (
      (list no_items, c.in_ok-first.rest.now),
      rw (c.in_ok-first.ensures, e) refl,
      (refl, sym (le-leb 1 (c.args.brackets + 1) (omega arith)), refl),
    )

pub check_tuple-returns-then-first-eq125 : goal.check_tuple-returns-then-first-eq125
unfolding tuple_at
check_tuple-returns-then-first-eq125 t c = λ look knows.
    let e : eqb c.in_ok-first.first 125 ≡ true = search (rules, tests) in (
      (tuple no_items, c.in_ok-first.rest.now),
      rw (c.in_ok-first.ensures, e) refl,
      (refl, sym (le-leb 1 (c.args.brackets + 1) (omega arith)), refl),
    )

pub check_value-returns-in_err-first : goal.check_value-returns-in_err-first
check_value-returns-in_err-first t c = λ look knows.
    let p = err_from_is_err_and c.from_residual.result c.from_residual.ensures.1 in
    rw (p.1, p.2) (term_bad look c.args.brackets c.args.bytes.now c.in_err-first.field-0.0 c.in_err-first.ensures)

pub check_value-returns-in_err-is_byte : goal.check_value-returns-in_err-is_byte
check_value-returns-in_err-is_byte t c = λ look knows.
    let p = err_from_is_err_and c.from_residual-in_err-is_byte.result c.from_residual-in_err-is_byte.ensures.1 in
    rw (
      p.1,
      p.2,
    ) (term_leaf look c.args.brackets c.args.bytes.now c.in_ok-first.first c.in_ok-first.rest.now c.in_ok-first.ensures
    (search (rules, tests)) (search (rules, tests)) ∙ c.in_err-is_byte.ensures look knows)

pub check_value-returns : goal.check_value-returns
check_value-returns t c = λ look knows.
    let d = c.in_ok-is_byte.ensures look knows in (
      d.0,
      term_leaf look c.args.brackets c.args.bytes.now c.in_ok-first.first c.in_ok-first.rest.now c.in_ok-first.ensures
          (search (rules, tests)) (search (rules, tests)) ∙ d.1,
      (d.2.0, record { fits = one_fits _ _ d.2.2; byte = d.2.1 }),
    )

pub check_value-returns-then-brackets-eq0 : goal.check_value-returns-then-brackets-eq0
check_value-returns-then-brackets-eq0 t c =
    λ look knows. term_none_tuple look c.args.brackets c.args.bytes.now c.in_ok-first.first c.in_ok-first.rest.now
    (search rules) c.in_ok-first.ensures (search (rules, tests))

pub check_value-returns-then-brackets-eq0-2 : goal.check_value-returns-then-brackets-eq0-2
check_value-returns-then-brackets-eq0-2 t c =
    λ look knows. term_none_list look c.args.brackets c.args.bytes.now c.in_ok-first.first c.in_ok-first.rest.now
    (search rules) c.in_ok-first.ensures (search (rules, tests)) (search (rules, tests))

pub check_value-returns-in_err-fits : goal.check_value-returns-in_err-fits
check_value-returns-in_err-fits t c = λ look knows.
    let p = err_from_is_err_and c.from_residual-in_err-fits.result c.from_residual-in_err-fits.ensures.1 in
    rw (p.1, p.2) (term_tuple look c.args.brackets c.args.bytes.now c.in_ok-first.first c.in_ok-first.rest.now
    (search rules) c.in_ok-first.ensures (search (rules, tests)) ∙ c.in_err-fits.ensures look knows)

pub check_value-returns-in_err-fits-2 : goal.check_value-returns-in_err-fits-2
check_value-returns-in_err-fits-2 t c = λ look knows.
    let p = err_from_is_err_and c.from_residual-in_err-fits-2.result c.from_residual-in_err-fits-2.ensures.1 in
    rw (p.1, p.2) (term_list look c.args.brackets c.args.bytes.now c.in_ok-first.first c.in_ok-first.rest.now
    (search rules) c.in_ok-first.ensures (search (rules, tests)) (search (rules, tests))
    ∙ c.in_err-fits-2.ensures look knows)

pub check_value-returns-then-first-eq123 : goal.check_value-returns-then-first-eq123
check_value-returns-then-first-eq123 t c = λ look knows.
    let d = c.in_ok-fits.ensures look knows in
    let e : c.args.brackets - 1 + 1 ≡ c.args.brackets = omega arith in (
      d.0,
      term_tuple look c.args.brackets c.args.bytes.now c.in_ok-first.first c.in_ok-first.rest.now (search
          rules) c.in_ok-first.ensures (search (rules, tests)) ∙ d.1,
      (
        d.2.0,
        record
            { fits = c.bracketed.ensures.fits ∙ d.2.1 ∙ ap (leb (levels_of d.0.0)) e; byte = c.bracketed.ensures.is_byte ∙ sym d.2.2 },
      ),
    )

pub check_value-returns-then-first-eq91 : goal.check_value-returns-then-first-eq91
check_value-returns-then-first-eq91 t c = λ look knows.
    let d = c.in_ok-fits-2.ensures look knows in
    let e : c.args.brackets - 1 + 1 ≡ c.args.brackets = omega arith in (
      d.0,
      term_list look c.args.brackets c.args.bytes.now c.in_ok-first.first c.in_ok-first.rest.now
          (search rules) c.in_ok-first.ensures (search (rules, tests)) (search (rules, tests)) ∙ d.1,
      (
        d.2.0,
        record {
          fits = c.bracketed-then-first-eq91.ensures.fits ∙ d.2.1 ∙ ap (leb (levels_of d.0.0)) e;
          byte = c.bracketed-then-first-eq91.ensures.is_byte ∙ sym d.2.2;
        },
      ),
    )
