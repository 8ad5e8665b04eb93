use Rattle.std.proofs.Common.{length, arith, ap}
use Rattle.erl_term.proofs.Lengths.{length-reference}
use Rattle.erl_term.proofs.parts.ReferenceRef.written_len.Goals as goal

pub returns-clause-len : goal.returns-clause-len
returns-clause-len c =
    let k = length-reference (record { node = c.self.inside.node; creation = c.self.inside.creation; words = c.self.inside.words }) in
    let n = ap length c.as_slice.ensures.words in
    let a = c.written_len.ensures.len in
    rw (← c.self.view_is) (omega arith)
