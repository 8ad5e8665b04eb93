use Rattle.std.proofs.Common.{◌+◌, ◌++◌, length, rules, arith}
use Rattle.std.specs.Int.{to_be_bytes, w32, w64}
use Rattle.erl_handshake.specs.Messages.{counted}
use Rattle.c_library.specs.Written.{IsWritten}
use Rattle.c_library.proofs.Written.{both}
use Rattle.c_library.proofs.Said.{lettered}
use Rattle.c_library.proofs.saying.put_send_name.Goals as goal

pub returns : goal.returns
returns c =
    let a = c.args in
    let node = to_be_bytes w32 a.creation ++ counted a.name.now in
    let word : IsWritten c.put_letter-letter.result (to_be_bytes w64 a.flags) c.put_letter-letter.new.out c.put_bytes-word.result c.put_bytes-word.new.out = search rules in
    lettered 78 _ _ (15 + length a.name.now) (to_be_bytes w64 a.flags ++ node) _ _ _ (omega arith) c.put_letter-letter.ensures
    (both _ _ _ (to_be_bytes w64 a.flags) node _ _ _ word c.put_node.ensures)
