use Rattle.std.proofs.Common.{rules, sym, ◌∙◌}
use Rattle.script_lines.proofs.AtomLemmas.{atom_due, no_atom, no_term}
use Rattle.script_lines.proofs.naming.atom_read.Goals as goal

pub returns-then-not-begins_atom : goal.returns-then-not-begins_atom
returns-then-not-begins_atom c = λ look knows. sym (no_atom look c.args.text.now (search rules))

pub returns-in-Ok : goal.returns-in-Ok
returns-in-Ok c = λ look knows.
    sym (atom_due look c.args.text.now (search rules) (sym (c.check_term.ensures look knows) ∙ c.in-Ok.is))

pub returns-in-Err : goal.returns-in-Err
returns-in-Err c = λ look knows. sym (no_term look c.args.text.now c.in-Err.field-0 (sym (c.check_term.ensures look knows) ∙ c.in-Err.is))
