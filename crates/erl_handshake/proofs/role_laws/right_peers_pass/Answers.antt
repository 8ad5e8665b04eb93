use Rattle.std.proofs.Common.{◌≡◌, ℕ, List, true, refl}
use Rattle.std.specs.Cmp.Lexicographic.{bytes_decides}
use Rattle.erl_handshake.specs.Digest.{digest_of}
use Rattle.erl_handshake.specs.Roles.{is_same}
use Rattle.erl_handshake.proofs.role_laws.right_peers_pass.Goals as goal

same_itself : (text : List ℕ) → is_same text text ≡ true
same_itself text = (bytes_decides text text).1 refl

pub returns-clause-introduced : goal.returns-clause-introduced
returns-clause-introduced c = λ name flags offers. rw (same_itself name, offers) refl

pub returns-clause-answered : goal.returns-clause-answered
returns-clause-answered c = λ cookie challenge. same_itself (digest_of cookie challenge)
