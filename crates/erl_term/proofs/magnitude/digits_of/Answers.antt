use Rattle.erl_term.specs.Canonical.{magnitude}
use Rattle.erl_term.proofs.Digits.{front_digits}
use Rattle.erl_term.proofs.magnitude.digits_of.Goals as goal

pub returns-clause-bytes : goal.returns-clause-bytes
unfolding magnitude
returns-clause-bytes c =
    rw (c.to_le_bytes.ensures, c.digit_count.ensures.count) (front_digits 16 c.args.n)
