use Rattle.erl_term.proofs.Sizes.{reference_measure}
use Rattle.erl_term.proofs.size.Measure.of_reference.Goals as goal

pub returns : goal.returns
returns c = reference_measure c.args.made.now c.written_len.result c.written_len.ensures.len c.written_len.ensures.bound
