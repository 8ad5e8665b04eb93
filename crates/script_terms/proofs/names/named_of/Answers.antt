use Rattle.std.proofs.Common.{◌≡◌, true, sym, ◌∙◌}
use Rattle.std.proofs.lemmas.Str.{IsUtf8-from_ascii}
use Rattle.script_terms.specs.Words.{is_name}
use Rattle.script_terms.proofs.WordLemmas.{name_ascii}
use Rattle.script_terms.proofs.names.named_of.Goals as goal

pub returns-in_default : goal.returns-in_default
returns-in_default c = λ look knows.
    let word = c.word_of.result.0.now in
    let e : is_name word ≡ true = sym c.is_name_word.ensures ∙ c.if-not-is_name_word.false in
    absurd (c.in_default.ensures.cases.0 (IsUtf8-from_ascii word (name_ascii word e)))
