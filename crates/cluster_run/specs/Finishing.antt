-- The outcome of all books when the threads have ended.
use Rattle.std.specs.Prelude.{◌≡◌, List, length}
use Rattle.dist_books.specs.Acting.{Nodes}
use Rattle.joined_books.specs.Joined.{AreARun, IsTrace}
use Rattle.joined_books.specs.Receipts.{AreReceipts}
use Rattle.joined_books.specs.declared.trace.Placed.{Placed}
use Rattle.node_lock.specs.Seen.{BookSeen}
use Rattle.node_lock.specs.declared.seat.Seat.{Seat}

-- there is a book for each of these nodes: the entries are all of theirs, by stamp and then by node, and one safe run of the
-- model's world of the nodes, from its opening; and what the seats have asked for, and nothing else, was asked for in it
pub record IsFinished (nodes : Nodes) (books : List BookSeen) (seats : List Seat) (entries : List Placed) : Type 0 where
  pub one_each : length nodes ≡ length books
  pub trace : IsTrace books entries
  pub run : AreARun nodes books entries
  pub receipts : AreReceipts books seats
