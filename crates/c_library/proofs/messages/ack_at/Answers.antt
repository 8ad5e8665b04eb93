use Rattle.std.proofs.Common.{◌≡◌, ◌∷◌, length, refl, subst, rules, arith}
use Rattle.erl_handshake.specs.declared.message.ShakeMsg.TheVariants.{ChallengeAck}
use Rattle.erl_handshake.specs.Messages.{IsBody}
use Rattle.erl_handshake.proofs.Bodies.{ack_body}
use Rattle.c_library.proofs.messages.ack_at.Goals as goal

pub returns : goal.returns
returns c =
    let same : c.in_ok-digest.digest ≡ c.args.bytes.now = search rules in
    let len : length c.in_ok-digest.digest ≡ 16 = search rules in (
      ChallengeAck c.in_ok-digest.digest,
      λ role. subst (λ w. IsBody role (ChallengeAck c.in_ok-digest.digest) (97 ∷ w)) same (ack_body role c.in_ok-digest.digest len),
      record { within = rw c.untold.ensures.name (omega arith); says = λ a b. refl },
    )
