use Rattle.std.proofs.Common.{subst, sym}
use Rattle.c_library.specs.Written.{IsWritten}
use Rattle.c_library.proofs.Written.{both, more_digits}
use Rattle.c_library.proofs.buffers.+put_digits.Goals as goal

pub returns : goal.returns
returns t c =
    let joined = both _ _ _ _ _ _ _ _ c.put_bytes-next.ensures c.put_digits.ensures in
    let fewer = c.in-Some.ensures in
    subst (λ text. IsWritten c.args.start text c.args.out.now c.put_digits.result c.put_digits.new.out)
    (sym (more_digits c.args.most c.in-Some.fewer c.args.n fewer.0 fewer.1 c.if-n-eq0.false)) joined
