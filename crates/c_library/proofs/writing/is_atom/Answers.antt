use Rattle.std.proofs.Common.{rules}
use Rattle.erl_term.specs.Text.{IsAtomText}
use Rattle.erl_term.proofs.Utf8.{atom_bytes}
use Rattle.c_library.proofs.writing.is_atom.Goals as goal

pub returns-in-Ok-clause-short : goal.returns-in-Ok-clause-short
returns-in-Ok-clause-short c fits = let is : IsAtomText c.args.text.now = search rules in atom_bytes c.args.text.now is
