use Rattle.std.proofs.lemmas.Result.{err_from_is_err_and}
use Rattle.erl_handshake.specs.declared.message.ShakeMsg.TheVariants.{SendName}
use Rattle.erl_handshake.specs.declared.message.Role.TheVariants.{Acceptor}
use Rattle.erl_handshake.specs.Messages.{IsBody}
use Rattle.erl_handshake.specs.Reading.{BeginsWithName}
use Rattle.std.proofs.Common.{◌∷◌}
use Rattle.erl_handshake.proofs.Bodies.{send_name_named, send_name_body}
use Rattle.erl_handshake.proofs.Dues.{decides_err}
use Rattle.erl_handshake.proofs.reading.send_name_of.Goals as goal

pub returns-in_err-name : goal.returns-in_err-name
returns-in_err-name c =
    let p = err_from_is_err_and c.from_residual.result c.from_residual.ensures.1 in
    let f = c.in-Some.ensures in
    rw (p.1, p.2)
    (decides_err (BeginsWithName c.in-Some.bytes.now) (λ m. IsBody Acceptor m (78 ∷ c.args.bytes.now)) c.in_err-name.field-0.0
    (send_name_named c.in-Some.flags c.in-Some.creation c.in-Some.bytes.now c.args.bytes.now f.0 f.1 f.2)
    (λ name n. (
      SendName c.in-Some.flags c.in-Some.creation name,
      send_name_body c.in-Some.flags c.in-Some.creation name c.in-Some.bytes.now c.args.bytes.now f.0 f.1 n f.2,
    ))
    c.in_err-name.ensures)
