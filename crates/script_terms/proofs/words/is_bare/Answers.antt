use Rattle.std.proofs.Common.{rules, tests, ap, sym, ◌∙◌}
use Rattle.std.proofs.lemmas.Iterator.{YieldsList-from_slice}
use Rattle.std.proofs.lemmas.Iterator.Search.{all_from_yields_List}
use Rattle.script_terms.specs.Words.{is_bare, is_atom_byte}
use Rattle.script_terms.proofs.WordLemmas.{bare_of_parts}
use Rattle.script_terms.proofs.words.is_bare.Goals as goal

pub returns-then-is_ascii_lowercase : goal.returns-then-is_ascii_lowercase
returns-then-is_ascii_lowercase c =
    let rest =
    all_from_yields_List is_atom_byte _ _ c.all.result c.all.ensures.ran (YieldsList-from_slice _ c.iter.ensures.rest)
    (λ x b q k. search (rules, tests)) in
    rest ∙ sym (bare_of_parts c.as_bytes.result.now c.in-len1-up.len_at_least (search (rules, tests))) ∙ ap is_bare c.as_bytes.ensures.value
