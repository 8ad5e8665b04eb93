use Rattle.std.proofs.Common.{length, rules}
use Rattle.std.specs.Int.{to_be_bytes, w16, w32}
use Rattle.erl_handshake.specs.Messages.{counted}
use Rattle.c_library.specs.Written.{IsWritten}
use Rattle.c_library.proofs.Written.{both}
use Rattle.c_library.proofs.saying.put_node.Goals as goal

pub returns : goal.returns
returns c =
    let number : IsWritten c.args.start (to_be_bytes w32 c.args.creation) c.args.out.now c.put_bytes-number.result c.put_bytes-number.new.out = search rules in
    let len : IsWritten c.put_bytes-number.result (to_be_bytes w16 (length c.args.name.now)) c.put_bytes-number.new.out c.put_bytes-len.result c.put_bytes-len.new.out = search rules in
    both _ _ _ (to_be_bytes w32 c.args.creation) (counted c.args.name.now) _ _ _ number
    (both _ _ _ (to_be_bytes w16 (length c.args.name.now)) c.args.name.now _ _ _ len c.put_bytes.ensures)
