-- Why books and seats don't join.
use Rattle.std.specs.Prelude.{List}
use Rattle.dist_books.specs.Acting.{Nodes}
use Rattle.joined_books.specs.Names.{AreInPlace, IsStrangeBook}
use Rattle.joined_books.specs.Receipts.{AllEntered, IsMissing, IsStrangeReceipt}
use Rattle.joined_books.specs.Wires.{AreWhole, IsTorn}
use Rattle.joined_books.specs.declared.error.FinishError.{FinishError}
use Rattle.joined_books.specs.declared.error.FinishError.TheVariants.{OutOfMemory, SeatsMissing, StrangeBook, StrangeReceipt, Torn}
use Rattle.node_lock.specs.Seen.{BookSeen}
use Rattle.node_lock.specs.declared.seat.Seat.{Seat}

-- What is wrong is where the error says, and what is looked at before is in order.
abbrev pub IsFault : Nodes → List BookSeen → List Seat → FinishError → Type 0
IsFault nodes books seats (StrangeBook node) = IsStrangeBook nodes books node
IsFault nodes books seats (Torn trunk seq) = AreInPlace nodes books × IsTorn books trunk seq
IsFault nodes books seats (StrangeReceipt node position) =
    AreInPlace nodes books × AreWhole books × IsStrangeReceipt books seats node position
IsFault nodes books seats (SeatsMissing node) =
    AreInPlace nodes books × AreWhole books × AllEntered books seats × IsMissing books seats node
IsFault nodes books seats OutOfMemory = Unit {0}
