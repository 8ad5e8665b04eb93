use Rattle.std.proofs.lemmas.Result.{err_from_is_err_and}
use Rattle.script_terms.specs.Steps.{marks_at}
use Rattle.script_terms.proofs.Marks.{marks_more, marks_bad, marks_done}
use Rattle.script_terms.proofs.lists.after_marks.Goals as goal

pub returns-in_err-rest : goal.returns-in_err-rest
returns-in_err-rest c =
    let p = err_from_is_err_and c.from_residual.result c.from_residual.ensures.1 in
    rw (p.1, p.2) (marks_bad c.args.mark c.args.count c.loop.counter c.loop.rest.now c.in_err-rest.field-0.0
    (marks_at c.args.mark c.args.count c.args.bytes.now) c.loop-test.true c.in_err-rest.ensures c.loop.invariant)

pub loop-preserved : goal.loop-preserved
loop-preserved c =
    marks_more c.args.mark c.args.count c.loop.counter c.args.mark c.loop.rest.now c.in_ok-rest.rest.now
    (marks_at c.args.mark c.args.count c.args.bytes.now) c.loop-test.true c.in_ok-rest.ensures c.loop.invariant

pub returns : goal.returns
returns c =
    marks_done c.args.mark c.args.count c.loop.counter c.loop.rest.now
    (marks_at c.args.mark c.args.count c.args.bytes.now) c.loop-test.false c.loop.invariant
