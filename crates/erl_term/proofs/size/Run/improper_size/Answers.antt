use Rattle.std.proofs.Common.{arith}
use Rattle.erl_term.proofs.Sizes.{improper_size}
use Rattle.erl_term.proofs.size.Run.improper_size.Goals as goal

pub returns : goal.returns
returns c = λ ts t e f.
    let a = c.saturating_add.ensures in
    let b = c.saturating_add-2.ensures in
    let m = c.max.ensures in
    let n = c.saturating_add-3.ensures in
    improper_size ts t c.args.self c.args.tail c.saturating_add-2.result c.saturating_add-3.result e f (omega arith) (omega arith)
