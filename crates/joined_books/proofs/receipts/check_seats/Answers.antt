use Rattle.std.proofs.Common.{◌≡◌, ◌∙◌, List, arith, subst, sym}
use Rattle.std.specs.List.{Contains}
use Rattle.joined_books.proofs.SeatReceipts.{strange_seat}
use Rattle.node_lock.specs.declared.seat.Asked.{Asked}
use Rattle.joined_books.proofs.receipts.check_seats.Goals as goal

pub returns-in-Some-clause-err : goal.returns-in-Some-clause-err
returns-in-Some-clause-err c = λ nodes places whole.
    let item = c.in-Some.ensures.item in
    let over = c.if-node-books.true in
    let same : c.node.result ≡ c.node-in-Some.result = c.node.ensures ∙ sym c.node-in-Some.ensures in
    let there : Contains c.receipts.result.now c.in-Some.asked.now = (0, item.3.0, sym item.1) in (
      places,
      whole,
      strange_seat c.args.books.now c.args.seats.now c.loop-seat.seat-index c.seat-item.result c.node-in-Some.result c.in-Some.asked.now
          c.loop-seat-test.true c.seat-item.is
          c.node-in-Some.ensures (omega arith) (subst (λ (l : List Asked). Contains l c.in-Some.asked.now) c.receipts.ensures.items there),
    )
