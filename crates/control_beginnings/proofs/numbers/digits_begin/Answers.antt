use Rattle.std.proofs.Common.{◌≡◌, ◌≤◌, length, arith, rules, sym, ◌∙◌, min}
use Rattle.erl_term.specs.Numbers.{low_first}
use Rattle.readers.specs.Reading.{AreBytes}
use Rattle.control_beginnings.proofs.Identified.{digits_start, zeros_start, digits_known, lt_true, true_lt, le_true, true_le}
use Rattle.control_beginnings.proofs.numbers.digits_begin.Goals as goal

pub returns-then-number-eq0 : goal.returns-then-number-eq0
returns-then-number-eq0 c =
    let bytes : AreBytes c.args.digits.now = λ i. omega (arith, c.type_inv.digits i) in
    let none : low_first c.args.digits.now ≡ 0 = sym c.low_first-number.ensures ∙ c.if-number-eq0.true in
    let least : c.min.result ≡ min c.args.len 8 = search rules in (
      λ t. let lt = lt_true (length c.args.digits.now) c.min.result t in
          zeros_start c.args.len c.args.digits.now bytes (omega arith) none (omega arith),
      λ s. let k = digits_known c.args.len c.args.digits.now s in let m = k.more none in
          true_lt (length c.args.digits.now) c.min.result (omega (arith, m.0, m.1)),
    )

pub returns-else-number-eq0 : goal.returns-else-number-eq0
returns-else-number-eq0 c =
    let bytes : AreBytes c.args.digits.now = λ i. omega (arith, c.type_inv.digits i) in
    let same = c.low_first-number.ensures in
    let short : length c.args.digits.now ≤ c.args.len = omega arith in
    let some : 1 ≤ low_first c.args.digits.now = omega arith in (
      λ t. let le = le_true c.low_first-number.result 18446744073709551615 t in
          digits_start c.args.len c.args.digits.now bytes short some (omega arith),
      λ s. let k = digits_known c.args.len c.args.digits.now s in let f = k.fits in
          true_le c.low_first-number.result 18446744073709551615 (omega arith),
    )
