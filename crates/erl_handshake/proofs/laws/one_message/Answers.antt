use Rattle.erl_handshake.proofs.Dues.{same_message}
use Rattle.erl_handshake.proofs.laws.one_message.Goals as goal

pub returns : goal.returns
returns c = same_message
