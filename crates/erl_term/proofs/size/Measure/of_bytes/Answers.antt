use Rattle.std.proofs.Common.{arith}
use Rattle.erl_term.proofs.Sizes.{bytes_measure}
use Rattle.erl_term.proofs.size.Measure.of_bytes.Goals as goal

pub returns : goal.returns
returns c =
    bytes_measure c.args.bytes.now c.saturating_add.result c.min.result (λ i. omega (arith, c.type_inv.bytes i))
    (omega arith) c.saturating_add.ensures c.min.ensures
