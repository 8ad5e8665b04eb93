use Rattle.diagram_svg.proofs.Written.{written_is_text, written_is_read}
use Rattle.diagram_svg.proofs.laws.text_is_read_again.Goals as goal

pub returns-clause-grammar : goal.returns-clause-grammar
returns-clause-grammar c = written_is_text

pub returns-clause-read : goal.returns-clause-read
returns-clause-read c = written_is_read
