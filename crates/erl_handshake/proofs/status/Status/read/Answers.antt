use Rattle.std.proofs.Common.{sym, subst}
use Rattle.std.specs.Str.{IsUtf8}
use Rattle.erl_handshake.proofs.Bodies.{status_utf8}
use Rattle.erl_handshake.proofs.status.Status.read.Goals as goal

pub returns-in_default : goal.returns-in_default
returns-in_default c = λ status e. c.in_default.ensures.cases.0 (subst IsUtf8 (sym e) (status_utf8 status))
