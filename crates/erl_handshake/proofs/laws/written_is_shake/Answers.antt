use Rattle.erl_handshake.proofs.Dues.{written_shake}
use Rattle.erl_handshake.proofs.laws.written_is_shake.Goals as goal

pub returns : goal.returns
returns c = written_shake
