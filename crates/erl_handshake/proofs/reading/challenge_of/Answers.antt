use Rattle.std.proofs.Common.{◌∷◌}
use Rattle.std.proofs.lemmas.Result.{err_from_is_err_and}
use Rattle.erl_handshake.specs.declared.message.ShakeMsg.TheVariants.{Challenge}
use Rattle.erl_handshake.specs.declared.message.Role.TheVariants.{Dialer}
use Rattle.erl_handshake.specs.Messages.{IsBody}
use Rattle.erl_handshake.specs.Reading.{BeginsWithName}
use Rattle.erl_handshake.proofs.Bodies.{challenge_named, challenge_body}
use Rattle.erl_handshake.proofs.Dues.{decides_err}
use Rattle.erl_handshake.proofs.reading.challenge_of.Goals as goal

pub returns-in_err-name : goal.returns-in_err-name
returns-in_err-name c =
    let p = err_from_is_err_and c.from_residual.result c.from_residual.ensures.1 in
    let x = c.in-Some in
    let f = x.ensures in
    rw (p.1, p.2)
    (decides_err (BeginsWithName x.bytes.now) (λ m. IsBody Dialer m (78 ∷ c.args.bytes.now)) c.in_err-name.field-0.0
    (challenge_named x.flags x.challenge x.creation x.bytes.now c.args.bytes.now f.0 f.1 f.2 f.3)
    (λ name n. (
      Challenge x.flags x.challenge x.creation name,
      challenge_body x.flags x.challenge x.creation name x.bytes.now c.args.bytes.now f.0 f.1 f.2 n f.3,
    ))
    c.in_err-name.ensures)
