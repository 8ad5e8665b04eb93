use Rattle.erl_term.proofs.Sizes.{atom_measure}
use Rattle.erl_term.proofs.size.Measure.of_atom.Goals as goal

pub returns : goal.returns
returns c = atom_measure c.args.name.now c.written_len.result c.written_len.ensures.len c.written_len.ensures.bound
