use Rattle.std.proofs.Common.{length, rules, tests}
use Rattle.std.proofs.lemmas.Result.{err_from_is_err_and}
use Rattle.script_terms.specs.Reading.{byte_at, separated_at}
use Rattle.script_terms.proofs.Separated.{goes_on, closes, bad_one, bad_next, bad_mark, bad_end}
use Rattle.script_terms.proofs.reading.bytes_of.Goals as goal

pub returns-in_err-byte : goal.returns-in_err-byte
returns-in_err-byte c =
    let p = err_from_is_err_and c.from_residual.result c.from_residual.ensures.1 in
    let n = length c.args.bytes.now in
    rw (p.1, p.2) (bad_one byte_at 62 c.loop.items.items n c.loop.counter c.loop.rest.now c.in_err-byte.field-0.0
    (separated_at byte_at 62 n c.args.bytes.now) c.loop-test.true c.in_err-byte.ensures c.loop.invariant)

pub returns-in_err-mark : goal.returns-in_err-mark
returns-in_err-mark c =
    let p = err_from_is_err_and c.from_residual-in_err-mark.result c.from_residual-in_err-mark.ensures.1 in
    let n = length c.args.bytes.now in
    rw (p.1, p.2) (bad_next byte_at 62 c.loop.items.items n c.loop.counter c.loop.rest.now c.in_ok-byte.byte
    c.in_ok-byte.after.now c.in_err-mark.field-0.0 (separated_at byte_at 62 n c.args.bytes.now) c.loop-test.true
    c.in_ok-byte.ensures c.in_err-mark.ensures c.loop.invariant)

pub returns-in-62 : goal.returns-in-62
returns-in-62 c =
    let n = length c.args.bytes.now in
    rw c.in_ok-push.ensures.items (closes byte_at 62 c.loop.items.items n c.loop.counter c.loop.rest.now c.in_ok-byte.byte
    c.in_ok-byte.after.now c.in_ok-mark.mark c.in_ok-mark.after.now (separated_at byte_at 62 n c.args.bytes.now)
    c.loop-test.true c.in_ok-byte.ensures c.in_ok-mark.ensures (search (rules, tests)) (search (rules, tests))
    c.loop.invariant)

pub returns-in_default : goal.returns-in_default
returns-in_default c =
    let n = length c.args.bytes.now in
    bad_mark byte_at 62 c.loop.items.items n c.loop.counter c.loop.rest.now c.in_ok-byte.byte c.in_ok-byte.after.now
    c.in_ok-mark.mark c.in_ok-mark.after.now (separated_at byte_at 62 n c.args.bytes.now) c.loop-test.true
    c.in_ok-byte.ensures c.in_ok-mark.ensures (search (rules, tests)) (search (rules, tests)) c.loop.invariant

pub loop-preserved : goal.loop-preserved
loop-preserved c =
    let n = length c.args.bytes.now in
    rw c.in_ok-push.ensures.items
    (goes_on byte_at 62 c.loop.items.items n c.loop.counter c.loop.rest.now c.in_ok-byte.byte c.in_ok-byte.after.now
    c.in_ok-mark.mark c.in_ok-mark.after.now (separated_at byte_at 62 n c.args.bytes.now) c.loop-test.true
    c.in_ok-byte.ensures c.in_ok-mark.ensures (search (rules, tests)) c.loop.invariant)

pub returns : goal.returns
returns c =
    let n = length c.args.bytes.now in
    bad_end byte_at 62 c.loop.items.items n c.loop.counter c.loop.rest.now
    (separated_at byte_at 62 n c.args.bytes.now) c.loop-test.false c.loop.invariant
