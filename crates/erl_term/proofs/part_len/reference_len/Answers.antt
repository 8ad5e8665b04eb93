use Rattle.std.proofs.Common.{length, arith, ap}
use Rattle.erl_term.proofs.Lengths.{length-reference}
use Rattle.erl_term.proofs.part_len.reference_len.Goals as goal

pub returns-clause-len : goal.returns-clause-len
returns-clause-len c =
    let k = length-reference c.args.reference.now in
    let n = ap length c.as_slice.ensures.words in
    let a = c.atom_len.ensures.len in
    omega arith

pub returns-clause-in_range : goal.returns-clause-in_range
returns-clause-in_range c = record {
  node = c.atom_len.ensures.in_range;
  creation = omega arith;
  some = c.as_slice.ensures.some;
  few = c.as_slice.ensures.few;
  words = c.as_slice.ensures.range;
}
