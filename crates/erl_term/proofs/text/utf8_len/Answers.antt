use Rattle.erl_term.proofs.Utf8.{atom_bytes}
use Rattle.erl_term.proofs.text.utf8_len.Goals as goal

pub returns-clause-bound : goal.returns-clause-bound
returns-clause-bound c = atom_bytes c.args.text.now (record { utf8 = c.utf8.text; short = c.requires })
