use Rattle.std.proofs.Common.{◌≡◌, rules}
use Rattle.std.specs.Str.{IsUtf8}
use Rattle.script_lines.proofs.LineLemmas.{reads_words, says_no_text}
use Rattle.script_lines.proofs.reading.read_line.Goals as goal

pub returns-in-Err : goal.returns-in-Err
returns-in-Err c = λ look knows. says_no_text c.args.may_come look c.args.line.now c.if-line-gt-LINE_LIMIT.false c.in-Err.ensures.cases.0

pub returns-in-Ok : goal.returns-in-Ok
returns-in-Ok c = λ look knows.
    let is_text : IsUtf8 c.args.line.now = search rules in
    let same : c.in-Ok.text.now ≡ c.args.line.now = search rules in
    reads_words c.args.may_come look c.args.line.now c.in-Ok.text.now c.read_words.result c.if-line-gt-LINE_LIMIT.false is_text same
    (c.read_words.ensures look knows)
