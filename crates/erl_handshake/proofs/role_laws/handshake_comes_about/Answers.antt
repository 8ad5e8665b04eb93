use Rattle.std.proofs.Common.{◌≡◌, ℕ, List, true, refl, sym}
use Rattle.erl_handshake.specs.Digest.{digest_of}
use Rattle.erl_handshake.specs.Roles.{is_answered}
use Rattle.erl_handshake.proofs.role_laws.handshake_comes_about.Goals as goal

-- what is answered over a shared cookie is right
Answered : Type 0
Answered = (cookie : List ℕ) (challenge : ℕ) → is_answered cookie challenge (digest_of cookie challenge) ≡ true

right : Answered → (own peer : List ℕ) (challenge : ℕ) → own ≡ peer → is_answered own challenge (digest_of peer challenge) ≡ true
unfolding Answered
right answered own peer challenge e = rw e (answered peer challenge)

pub returns-clause-dialer : goal.returns-clause-dialer
unfolding Answered
returns-clause-dialer c = λ own peer count challenge theirs f g e.
    let passes = c.right_peers_pass.ensures in
    rw (
      passes.introduced own.name own.flags f,
      passes.introduced peer.name peer.flags g,
      right passes.answered peer.cookie own.cookie theirs (sym e),
      right passes.answered own.cookie peer.cookie challenge e,
    ) refl

pub returns-clause-acceptor : goal.returns-clause-acceptor
unfolding Answered
returns-clause-acceptor c = λ own peer count challenge theirs f g e.
    let passes = c.right_peers_pass.ensures in
    rw (
      passes.introduced own.name own.flags f,
      passes.introduced peer.name peer.flags g,
      right passes.answered peer.cookie own.cookie theirs (sym e),
    ) refl
