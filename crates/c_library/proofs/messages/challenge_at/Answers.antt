use Rattle.std.proofs.Common.{Some, ap, take, drop}
use Rattle.erl_handshake.specs.declared.message.ShakeMsg.TheVariants.{Challenge}
use Rattle.erl_handshake.proofs.Bodies.{challenge_named, challenge_body}
use Rattle.c_library.proofs.Tells.{challenge_text, challenge_room}
use Rattle.c_library.proofs.messages.challenge_at.Goals as goal

pub returns-in_err-length : goal.returns-in_err-length
returns-in_err-length c =
    let x = c.in_ok-flags in
    let f = x.ensures in
    rw c.from_residual-in_err-length.ensures (λ m b.
    let n = challenge_named x.flags x.challenge x.creation x.rest.now c.args.bytes.now f.0 f.1 f.2 f.3 m b in
    c.in_err-length.ensures.name n.0 n.1)

pub returns : goal.returns
returns c =
    let x = c.in_ok-flags in
    let f = x.ensures in
    let length = c.in_ok-length.length in
    let name = take length (drop 2 x.rest.now) in (
      Challenge x.flags x.challenge x.creation name,
      challenge_body x.flags x.challenge x.creation name x.rest.now c.args.bytes.now f.0 f.1 f.2 c.in_ok-length.ensures.name f.3,
      record {
        within = challenge_room length x.flags x.challenge x.creation c.args.bytes.now x.rest.now f.3 c.in_ok-length.ensures.within;
        says = λ a b.
            ap (λ w. Some (Challenge x.flags x.challenge x.creation w))
            (challenge_text length x.flags x.challenge x.creation c.args.bytes.now x.rest.now f.3);
      },
    )
