use Rattle.std.proofs.Common.{ap, arith, length, List}
use Rattle.joined_books.proofs.SeatReceipts.{held_beyond, held_next}
use Rattle.node_lock.specs.declared.seat.Asked.{Asked}
use Rattle.joined_books.proofs.receipts.held.Goals as goal

pub returns-in-None : goal.returns-in-None
returns-in-None c =
    let beyond = c.in-None.ensures in
    let own = ap (λ (l : List Asked). length l) c.own_receipts.ensures in
    let all = held_beyond c.args.node c.args.seats.now c.loop-seat.seat-index c.seat-item.result c.loop-seat-test.true c.seat-item.is
    c.loop-seat.found
    (length c.own_receipts.result.now) c.loop-seat.invariant own in
    omega arith

pub loop-seat-preserved : goal.loop-seat-preserved
loop-seat-preserved c =
    held_next c.args.node c.args.seats.now c.loop-seat.seat-index c.seat-item.result c.loop-seat-test.true c.seat-item.is
    c.loop-seat.found c.in-Some.more
    (length c.own_receipts.result.now) c.loop-seat.invariant (ap (λ (l : List Asked). length l) c.own_receipts.ensures) c.in-Some.ensures.1
