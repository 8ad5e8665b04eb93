use Rattle.dist_books.proofs.Lines.{events_are_lines}
use Rattle.dist_books.proofs.laws.events_are_lines.Goals as goal

pub returns : goal.returns
returns c = events_are_lines c.arrival_is_taken.ensures.taken
