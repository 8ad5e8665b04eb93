use Rattle.dist_books.proofs.Numbers.{new_books_are_kept}
use Rattle.dist_books.proofs.laws.new_books_are_kept.Goals as goal

pub returns : goal.returns
returns c = new_books_are_kept
