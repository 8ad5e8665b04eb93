use Rattle.std.proofs.Common.{string_bytes}
use Rattle.script_threads.proofs.Asked.{entered, last_asked}
use Rattle.script_threads.proofs.running.act.Goals as goal

pub returns-in-Ok : goal.returns-in-Ok
returns-in-Ok g c =
    let asks = c.in-Ok.ensures.ok in
    let last = last_asked c.args.act c.args.seat.now c.call.new.seat c.in-Ok.field-0 asks in
    entered c.args.act c.args.node.now c.args.seat.now c.call.new.seat c.in-Ok.field-0 (string_bytes c.args.out.now)
    (string_bytes c.put_last.new.out) c.put_last.result asks
    (c.put_last.ensures.text asks.asked last) (c.put_last.ensures.made asks.asked last)
