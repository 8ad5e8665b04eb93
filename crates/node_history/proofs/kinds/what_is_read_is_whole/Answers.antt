use Rattle.node_history.proofs.ReadByBytes.{read_is_whole}
use Rattle.node_history.proofs.kinds.what_is_read_is_whole.Goals as goal

pub returns : goal.returns
returns c = read_is_whole c.one_answer.ensures c.read_again.ensures c.args.bytes.now c.are_bytes.ensures
