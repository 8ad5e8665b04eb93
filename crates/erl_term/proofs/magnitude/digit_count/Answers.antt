use Rattle.std.proofs.Common.{arith}
use Rattle.erl_term.specs.Canonical.{magnitude}
use Rattle.erl_term.proofs.Digits.{digit_count}
use Rattle.erl_term.proofs.magnitude.digit_count.Goals as goal

pub returns-clause-count : goal.returns-clause-count
unfolding magnitude
returns-clause-count c =
    let few = c.ilog2.ensures.bound in
    let count = digit_count 16 c.args.n c.ilog2.result c.ilog2.ensures.power_le c.ilog2.ensures.next_power_gt (omega arith) in
    omega arith
