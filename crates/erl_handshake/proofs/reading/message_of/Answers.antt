use Rattle.std.proofs.Common.{◌≡◌, ◌∷◌, ◌∙◌, ap, List, ℕ}
use Rattle.erl_handshake.proofs.Dues.{decides_option}
use Rattle.erl_handshake.proofs.reading.message_of.Goals as goal

-- a body that begins with the letter N
n_body : (body : List ℕ) (letter : ℕ) (bytes : List ℕ) → body ≡ letter ∷ bytes → letter ≡ 78 → body ≡ 78 ∷ bytes
n_body body letter bytes e f = e ∙ ap (λ (k : ℕ). k ∷ bytes) f

pub returns-then-letter-ne78 : goal.returns-then-letter-ne78
returns-then-letter-ne78 c =
    let b = c.in-Some.ensures.cases in
    rw (c.ok_or.ensures.value, b.0)
    (decides_option c.args.role (c.in-Some.letter.now ∷ c.in-Some.bytes.now) c.nameless_of.result c.nameless_of.ensures)

pub returns-in-Acceptor : goal.returns-in-Acceptor
returns-in-Acceptor c =
    rw
    (c.in-Acceptor.is, n_body c.args.body.now c.in-Some.letter.now c.in-Some.bytes.now c.in-Some.ensures.cases.0 c.if-letter-ne78.false)
    c.send_name_of.ensures

pub returns-in-Dialer : goal.returns-in-Dialer
returns-in-Dialer c =
    rw
    (c.in-Dialer.is, n_body c.args.body.now c.in-Some.letter.now c.in-Some.bytes.now c.in-Some.ensures.cases.0 c.if-letter-ne78.false)
    c.challenge_of.ensures
