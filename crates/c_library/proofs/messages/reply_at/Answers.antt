use Rattle.std.proofs.Common.{◌≡◌, ◌<◌, ◌^◌, ◌++◌, length, refl, sym, ap, ◌∙◌, rules, arith}
use Rattle.std.specs.Int.{to_be_bytes, w32}
use Rattle.erl_handshake.specs.declared.message.ShakeMsg.TheVariants.{ChallengeReply}
use Rattle.erl_handshake.proofs.Bodies.{reply_body}
use Rattle.c_library.proofs.messages.reply_at.Goals as goal

pub returns : goal.returns
returns c =
    let challenge = c.in_ok-challenge.challenge in
    let digest = c.in_ok-digest.digest in
    let same : digest ≡ c.in_ok-challenge.digest.now = search rules in
    let len : length digest ≡ 16 = search rules in
    let fits : challenge < 2 ^ 32 = search rules in (
      ChallengeReply challenge digest,
      λ role. reply_body role challenge digest c.args.bytes.now fits len (c.in_ok-challenge.ensures ∙ ap (λ w. to_be_bytes w32 challenge ++ w) (sym same)),
      record { within = rw c.untold.ensures.name (omega arith); says = λ a b. refl },
    )
