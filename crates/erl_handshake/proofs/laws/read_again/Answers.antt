use Rattle.erl_handshake.proofs.Dues.{due_again}
use Rattle.erl_handshake.proofs.laws.read_again.Goals as goal

pub returns : goal.returns
returns c = due_again
