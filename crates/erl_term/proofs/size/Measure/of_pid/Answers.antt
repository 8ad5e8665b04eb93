use Rattle.erl_term.proofs.Sizes.{pid_measure}
use Rattle.erl_term.proofs.size.Measure.of_pid.Goals as goal

pub returns : goal.returns
returns c = pid_measure c.args.process.now c.written_len.result c.written_len.ensures.len c.written_len.ensures.bound
