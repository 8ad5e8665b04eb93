use Rattle.std.proofs.Common.{subst}
use Rattle.script_lines.proofs.ReadReasons.{IsRead, line_is_read}
use Rattle.script_lines.proofs.laws.words_are_never_unmet.Goals as goal

pub returns : goal.returns
returns c = λ may look line unmet. subst IsRead unmet (line_is_read may look line)
