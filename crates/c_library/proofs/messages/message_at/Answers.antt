use Rattle.std.proofs.Common.{◌∷◌, ap, ◌∙◌}
use Rattle.c_library.proofs.Tells.{nameless_role}
use Rattle.c_library.proofs.messages.message_at.Goals as goal

pub returns-then-letter-ne78 : goal.returns-then-letter-ne78
returns-then-letter-ne78 c =
    rw c.in_ok-letter.ensures.cases.0
    (nameless_role c.args.role (c.in_ok-letter.letter.now ∷ c.in_ok-letter.bytes.now) c.nameless_at.result c.nameless_at.ensures)

pub returns-in-Acceptor : goal.returns-in-Acceptor
returns-in-Acceptor c =
    rw (c.in-Acceptor.is, c.in_ok-letter.ensures.cases.0 ∙ ap (λ k. k ∷ c.in_ok-letter.bytes.now) c.if-letter-ne78.false) c.send_name_at.ensures

pub returns-in-Dialer : goal.returns-in-Dialer
returns-in-Dialer c =
    rw (c.in-Dialer.is, c.in_ok-letter.ensures.cases.0 ∙ ap (λ k. k ∷ c.in_ok-letter.bytes.now) c.if-letter-ne78.false) c.challenge_at.ensures
