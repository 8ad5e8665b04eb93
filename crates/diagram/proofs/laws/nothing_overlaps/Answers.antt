use Rattle.diagram.proofs.Overlaps.{below_the_end, lines_fit, marks_apart, rows_apart, some_height, words_fit}
use Rattle.diagram.proofs.laws.nothing_overlaps.Goals as goal

pub returns-clause-rows : goal.returns-clause-rows
returns-clause-rows c = rows_apart

pub returns-clause-high : goal.returns-clause-high
returns-clause-high c = some_height

pub returns-clause-words : goal.returns-clause-words
returns-clause-words c = words_fit

pub returns-clause-within : goal.returns-clause-within
returns-clause-within c = lines_fit

pub returns-clause-below_the_end : goal.returns-clause-below_the_end
returns-clause-below_the_end c = below_the_end

pub returns-clause-apart : goal.returns-clause-apart
returns-clause-apart c = marks_apart
