use Rattle.std.proofs.Common.{ap, length, refl, arith}
use Rattle.node_lock.proofs.StampsRise.{stamps_rise}
use Rattle.node_lock.proofs.Called.{at_home, away, behind, called, no_room, strange, unapplied}
use Rattle.node_lock.proofs.calling.call.Goals as goal

pub returns-then-not-is_at_home-clause-err : goal.returns-then-not-is_at_home-clause-err
returns-then-not-is_at_home-clause-err c =
    strange c.args.act c.args.book.now c.args.seat.now (away c.is_at_home.result c.is_at_home.ensures c.if-not-is_at_home.true)

pub returns-then-is_err-clause-err : goal.returns-then-is_err-clause-err
returns-then-is_err-clause-err c =
    no_room c.args.act c.args.book.now c.args.seat.now (record (c.args.seat.now) { receipts = c.reserve.new.self })
    (at_home c.is_at_home.result c.is_at_home.ensures c.if-not-is_at_home.false) (omega (arith, c.last_or.ensures, c.if-last_or.false, c.last_or.type_inv)) refl c.reserve.ensures.items refl

pub returns-in-Err-clause-err : goal.returns-in-Err-clause-err
returns-in-Err-clause-err c =
    no_room c.args.act c.args.book.now c.args.seat.now (record (c.args.seat.now) { receipts = c.reserve.new.self })
    (at_home c.is_at_home.result c.is_at_home.ensures c.if-not-is_at_home.false) (omega (arith, c.last_or.ensures, c.if-last_or.false, c.last_or.type_inv)) refl c.reserve.ensures.items refl

pub returns-in-Err-act-clause-err : goal.returns-in-Err-act-clause-err
returns-in-Err-act-clause-err c =
    unapplied c.args.act c.args.book.now c.args.seat.now c.act.new.self
    (record (c.args.seat.now) { receipts = c.reserve.new.self }) c.into_event-event.result c.in-Err-act.e
    (at_home c.is_at_home.result c.is_at_home.ensures c.if-not-is_at_home.false) c.into_event-event.ensures.event
    c.in-Err-act.ensures.err refl c.reserve.ensures.items refl

pub returns-clause-ok : goal.returns-clause-ok
returns-clause-ok c =
    let told = c.in-Ok-act.told in
    called c.args.act c.args.book.now c.args.seat.now c.act.new.self (record (c.args.seat.now) { receipts = c.push.new.self })
    (record {
      event = c.in-Ok.kept;
      receipt = record { node = c.place.result; position = told.place; stamp = c.stamp_at.result; answer = told.answer };
    })
    told c.into_event-event.result c.reserve.new.self.items (length c.as_slice-place.result.now)
    (at_home c.is_at_home.result c.is_at_home.ensures c.if-not-is_at_home.false) c.into_event-event.ensures.event c.in-Ok-act.ensures.ok
    (stamps_rise c.args.book.now.names c.args.book.now.place c.args.book.now.setup c.args.book.now.history c.args.book.now.outlets
    c.replays.ensures)
    c.in-Ok-act.ensures.told c.into_event-event.ensures.act c.in-Ok.ensures refl c.stamp_at.ensures c.place.ensures refl refl refl
    c.reserve.ensures.items
    c.push.ensures (ap (λ l. length l) c.as_slice-place.ensures.items)

pub push-requires-clause-behind : goal.push-requires-clause-behind
push-requires-clause-behind c =
    let told = c.in-Ok-act.told in
    behind c.args.act c.args.book.now c.args.seat.now c.act.new.self c.args.seat.now
    (record {
      event = c.in-Ok.kept;
      receipt = record { node = c.place.result; position = told.place; stamp = c.stamp_at.result; answer = told.answer };
    })
    told c.into_event-event.result c.reserve.new.self.items 0
    (at_home c.is_at_home.result c.is_at_home.ensures c.if-not-is_at_home.false) c.into_event-event.ensures.event c.in-Ok-act.ensures.ok
    (stamps_rise c.args.book.now.names c.args.book.now.place c.args.book.now.setup c.args.book.now.history c.args.book.now.outlets
    c.replays.ensures)
    refl c.stamp_at.ensures c.reserve.ensures.items
