use Rattle.std.proofs.Common.{ap, sym, ◌∙◌}
use Rattle.script_lines.specs.Connections.{is_numeral}
use Rattle.script_lines.proofs.NumberLemmas.{not_parsed}
use Rattle.script_lines.proofs.connections.long_number.Goals as goal

pub returns-in-Err : goal.returns-in-Err
returns-in-Err c = not_parsed c.args.word.now c.in-Err.field-0
    (ap is_numeral (sym c.as_bytes.ensures.value) ∙ sym c.is_numeral.ensures ∙ c.if-not-is_numeral.false) c.in-Err.ensures.value.0
