use Rattle.std.proofs.Common.{◌++◌, List, length, sym, subst, take}
use Rattle.joined_books.proofs.SeatReceipts.{seat_next, strange_in}
use Rattle.joined_books.specs.Marks.{AreMarked, IsStrange}
use Rattle.joined_books.specs.Receipts.{IsEnteredIn, position_of, receipts_of}
use Rattle.node_lock.specs.declared.seat.Asked.{Asked}
use Rattle.joined_books.proofs.receipts.strange_one.Goals as goal

pub returns-in-Some : goal.returns-in-Some
returns-in-Some c =
    let seats = c.args.seats.now in
    let entries = c.args.entries.now in
    let i = c.loop-seat.seat-index in
    let P : List Asked → Type 0 = λ l. IsStrange position_of (IsEnteredIn entries) (receipts_of c.args.node (take i seats) ++ l)
    c.in-Some.position in
    strange_in c.args.node seats i c.seat-item.result c.loop-seat-test.true c.seat-item.is (IsEnteredIn entries) c.in-Some.position
    (subst P c.own_receipts.ensures (c.in-Some.ensures.marked (receipts_of c.args.node (take i seats)) c.loop-seat.invariant))

pub loop-seat-preserved : goal.loop-seat-preserved
loop-seat-preserved c =
    let seats = c.args.seats.now in
    let entries = c.args.entries.now in
    let i = c.loop-seat.seat-index in
    let P : List Asked → Type 0 = λ l. AreMarked position_of (IsEnteredIn entries) (length entries) c.mark_all.new.marks.items
    (receipts_of c.args.node (take i seats) ++ l) in
    let Q : List Asked → Type 0 = λ l. AreMarked position_of (IsEnteredIn entries) (length entries) c.mark_all.new.marks.items l in
    subst Q (sym (seat_next c.args.node seats i c.seat-item.result c.loop-seat-test.true c.seat-item.is))
    (subst P c.own_receipts.ensures (c.in_default.ensures.marked (receipts_of c.args.node (take i seats)) c.loop-seat.invariant))
