use Rattle.std.proofs.lemmas.Result.{err_from_is_err_and}
use Rattle.erl_term.specs.Reading.{read_term}
use Rattle.erl_term.proofs.Measured.{measures_none, measures_more, measures_end, measures_all}
use Rattle.erl_term.proofs.skim.+sizer.Goals as goal

pub items_measure_of-loop-init : goal.items_measure_of-loop-init
items_measure_of-loop-init t c =
    measures_none (read_term c.args.below) c.args.count c.args.bytes.now c.empty-items.result c.empty-items.ensures

pub items_measure_of-loop-preserved : goal.items_measure_of-loop-preserved
items_measure_of-loop-preserved t c =
    measures_more (read_term c.args.below) c.args.count c.args.bytes.now c.loop.counter c.loop.items c.loop.rest.now
    c.in_ok-item.item c.alone.result c.then-items.result c.in_ok-item.after.now
    c.loop-test.true c.loop.invariant c.in_ok-item.ensures c.alone.ensures c.then-items.ensures

pub items_measure_of-returns-in_err-item : goal.items_measure_of-returns-in_err-item
items_measure_of-returns-in_err-item t c =
    let p = err_from_is_err_and c.from_residual.result c.from_residual.ensures.1 in
    rw (p.1, p.2) (measures_end (read_term c.args.below) c.args.count c.args.bytes.now c.loop.counter c.loop.items
    c.loop.rest.now c.in_err-item.field-0.0 c.loop-test.true c.loop.invariant c.in_err-item.ensures)

pub items_measure_of-returns : goal.items_measure_of-returns
items_measure_of-returns t c =
    measures_all
    (read_term c.args.below) c.args.count c.args.bytes.now c.loop.counter c.loop.items c.loop.rest.now c.loop-test.false c.loop.invariant
