use Rattle.std.proofs.Common.{rules, arith}
use Rattle.erl_handshake.specs.Messages.{HasFields}
use Rattle.c_library.specs.Saying.{shake_in}
use Rattle.c_library.proofs.Said.{said_none, said_bad, said_no_room, said_written}
use Rattle.c_library.proofs.saying.erldist_put_message.Goals as goal

pub returns-in_default : goal.returns-in_default
returns-in_default c = said_none c.args.message.now c.args.name.now c.args.out.now c.in_default.ensures

pub returns-then-not-has_fields : goal.returns-then-not-has_fields
returns-then-not-has_fields c =
    let never : ¬ HasFields (shake_in c.in-Some.shake) = search rules in
    said_bad c.args.message.now c.args.name.now c.args.out.now (shake_in c.in-Some.shake) c.in-Some.ensures never

pub returns-then-out-size : goal.returns-then-out-size
returns-then-out-size c =
    let has : HasFields (shake_in c.in-Some.shake) = search rules in
    said_no_room c.args.message.now c.args.name.now c.args.out.now (shake_in c.in-Some.shake) c.content_len-size.result c.in-Some.ensures has
    c.content_len-size.ensures.len c.if-out-size.true

pub returns : goal.returns
returns c =
    let has : HasFields (shake_in c.in-Some.shake) = search rules in
    said_written c.args.message.now c.args.name.now c.args.out.now (shake_in c.in-Some.shake) c.content_len-size.result c.put_shake.result
    c.put_shake.new.out c.in-Some.ensures has c.content_len-size.ensures.len (let le = c.if-out-size.false in omega arith) c.put_shake.ensures
