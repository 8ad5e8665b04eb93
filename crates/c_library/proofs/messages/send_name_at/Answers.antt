use Rattle.std.proofs.Common.{Some, ap, take, drop}
use Rattle.erl_handshake.specs.declared.message.ShakeMsg.TheVariants.{SendName}
use Rattle.erl_handshake.proofs.Bodies.{send_name_named, send_name_body}
use Rattle.c_library.proofs.Tells.{send_name_text, send_name_room}
use Rattle.c_library.proofs.messages.send_name_at.Goals as goal

pub returns-in_err-length : goal.returns-in_err-length
returns-in_err-length c =
    let x = c.in_ok-flags in
    rw c.from_residual-in_err-length.ensures (λ m b.
    let n = send_name_named x.flags x.creation x.rest.now c.args.bytes.now x.ensures.0 x.ensures.1 x.ensures.2 m b in
    c.in_err-length.ensures.name n.0 n.1)

pub returns : goal.returns
returns c =
    let x = c.in_ok-flags in
    let length = c.in_ok-length.length in
    let name = take length (drop 2 x.rest.now) in (
      SendName x.flags x.creation name,
      send_name_body x.flags x.creation name x.rest.now c.args.bytes.now x.ensures.0 x.ensures.1 c.in_ok-length.ensures.name x.ensures.2,
      record {
        within = send_name_room length x.flags x.creation c.args.bytes.now x.rest.now x.ensures.2 c.in_ok-length.ensures.within;
        says = λ a b. ap (λ w. Some (SendName x.flags x.creation w)) (send_name_text length x.flags x.creation c.args.bytes.now x.rest.now x.ensures.2);
      },
    )
