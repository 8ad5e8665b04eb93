use Rattle.erl_term.proofs.Sizes.{binary_measure}
use Rattle.erl_term.proofs.size.Measure.of_binary.Goals as goal

pub returns : goal.returns
returns c = binary_measure c.args.bytes.now c.saturating_add.result c.saturating_add.ensures
