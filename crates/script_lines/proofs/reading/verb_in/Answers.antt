use Rattle.std.proofs.Common.{◌≡◌, rules, ap, ◌∙◌}
use Rattle.std.specs.Str.{IsUtf8}
use Rattle.script_lines.proofs.LineLemmas.{no_text_no_verb, verb_of_text}
use Rattle.script_lines.specs.Commands.{verb_named}
use Rattle.script_lines.proofs.reading.verb_in.Goals as goal

pub returns-in-Err : goal.returns-in-Err
returns-in-Err c = no_text_no_verb c.args.line.now c.if-line-gt-LINE_LIMIT.false c.in-Err.ensures.cases.0

pub returns-in-Ok : goal.returns-in-Ok
returns-in-Ok c =
    let is_text : IsUtf8 c.args.line.now = search rules in
    let same : c.in-Ok.text.now ≡ c.args.line.now = search rules in
    c.named.ensures ∙ ap verb_named c.first_word.ensures.word
    ∙ verb_of_text c.args.line.now c.in-Ok.text.now c.if-line-gt-LINE_LIMIT.false is_text same
