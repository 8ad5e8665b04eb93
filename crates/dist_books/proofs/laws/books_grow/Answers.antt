use Rattle.dist_books.proofs.OneEntryMore.{books_grow, sent_to_peers}
use Rattle.dist_books.proofs.ParcelsMove.{books_rest, new_books_follow, next_is_new}
use Rattle.dist_books.proofs.laws.books_grow.Goals as goal

pub returns : goal.returns
returns c = record {
  grow = books_grow c.events_are_lines.ensures c.node_keeps_its_bearings.ensures.kept;
  rest = books_rest;
  new = new_books_follow;
  next = next_is_new;
  sent = sent_to_peers c.events_are_lines.ensures c.node_keeps_its_bearings.ensures.kept;
}
