-- The text of an atom, as a test.
use Rattle.erl_term.proofs.Texts.{is_atom_text-holds, is_atom_text-long, is_atom_text-bad}

pub ruleset the_texts = (is_atom_text-holds, is_atom_text-long, is_atom_text-bad)
