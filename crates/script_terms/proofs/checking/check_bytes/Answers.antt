use Rattle.std.proofs.Common.{◌++◌, ◌∷◌, [], length, rules, tests, refl}
use Rattle.std.proofs.lemmas.Result.{err_from_is_err_and}
use Rattle.script_terms.specs.Reading.{byte_at, separated_at}
use Rattle.script_terms.proofs.Separated.{goes_on, closes, bad_one, bad_next, bad_mark, bad_end}
use Rattle.script_terms.proofs.checking.check_bytes.Goals as goal

pub returns-in_err-_byte : goal.returns-in_err-_byte
returns-in_err-_byte c =
    let p = err_from_is_err_and c.from_residual.result c.from_residual.ensures.1 in
    let n = length c.args.bytes.now in
    rw (p.1, p.2) (bad_one byte_at 62 c.loop.invariant.0 n c.loop.counter c.loop.rest.now c.in_err-_byte.field-0.0
    (separated_at byte_at 62 n c.args.bytes.now) c.loop-test.true c.in_err-_byte.ensures c.loop.invariant.1)

pub returns-in_err-mark : goal.returns-in_err-mark
returns-in_err-mark c =
    let p = err_from_is_err_and c.from_residual-in_err-mark.result c.from_residual-in_err-mark.ensures.1 in
    let n = length c.args.bytes.now in
    rw (p.1, p.2) (bad_next byte_at 62 c.loop.invariant.0 n c.loop.counter c.loop.rest.now c.in_ok-_byte._byte
    c.in_ok-_byte.after.now c.in_err-mark.field-0.0 (separated_at byte_at 62 n c.args.bytes.now) c.loop-test.true
    c.in_ok-_byte.ensures c.in_err-mark.ensures c.loop.invariant.1)

pub returns-in-62 : goal.returns-in-62
returns-in-62 c =
    let n = length c.args.bytes.now in (
      _,
      closes byte_at 62 c.loop.invariant.0 n c.loop.counter c.loop.rest.now c.in_ok-_byte._byte c.in_ok-_byte.after.now
          c.in_ok-mark.mark c.in_ok-mark.after.now (separated_at byte_at 62 n c.args.bytes.now) c.loop-test.true
          c.in_ok-_byte.ensures c.in_ok-mark.ensures (search (rules, tests)) (search (rules, tests)) c.loop.invariant.1,
      refl,
    )

pub returns-in_default : goal.returns-in_default
returns-in_default c =
    let n = length c.args.bytes.now in
    bad_mark byte_at 62 c.loop.invariant.0 n c.loop.counter c.loop.rest.now c.in_ok-_byte._byte c.in_ok-_byte.after.now
    c.in_ok-mark.mark c.in_ok-mark.after.now (separated_at byte_at 62 n c.args.bytes.now) c.loop-test.true
    c.in_ok-_byte.ensures c.in_ok-mark.ensures (search (rules, tests)) (search (rules, tests)) c.loop.invariant.1

pub loop-preserved : goal.loop-preserved
loop-preserved c =
    let n = length c.args.bytes.now in (
      c.loop.invariant.0 ++ c.in_ok-_byte._byte ∷ [],
      goes_on byte_at 62 c.loop.invariant.0 n c.loop.counter c.loop.rest.now c.in_ok-_byte._byte c.in_ok-_byte.after.now
          c.in_ok-mark.mark c.in_ok-mark.after.now (separated_at byte_at 62 n c.args.bytes.now) c.loop-test.true
          c.in_ok-_byte.ensures c.in_ok-mark.ensures (search (rules, tests)) c.loop.invariant.1,
    )

pub returns : goal.returns
returns c =
    let n = length c.args.bytes.now in
    bad_end byte_at 62 c.loop.invariant.0 n c.loop.counter c.loop.rest.now
    (separated_at byte_at 62 n c.args.bytes.now) c.loop-test.false c.loop.invariant.1
