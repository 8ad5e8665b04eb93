use Rattle.std.proofs.Common.{arith}
use Rattle.erl_term.proofs.Joined.{byte_done}
use Rattle.erl_term.proofs.lists.byte_list.Goals as goal

pub returns : goal.returns
returns c =
    byte_done c.args.bytes.now c.loop-byte.byte-index c.loop-byte.items.items (omega (arith, c.loop-byte-test.false)) c.loop-byte.invariant
