use Rattle.std.proofs.Common.{◌+◌, ◌++◌, rules, arith}
use Rattle.std.specs.Int.{to_be_bytes, w32}
use Rattle.c_library.specs.Written.{IsWritten}
use Rattle.c_library.proofs.Written.{both}
use Rattle.c_library.proofs.Said.{lettered}
use Rattle.c_library.proofs.saying.put_reply.Goals as goal

pub returns : goal.returns
returns c =
    let a = c.args in
    let number : IsWritten c.put_letter-letter.result (to_be_bytes w32 a.challenge) c.put_letter-letter.new.out c.put_bytes-number.result c.put_bytes-number.new.out = search rules in
    let len = c.digest_len.ensures.len in
    lettered 114 _ _ (5 + c.digest_len.result) (to_be_bytes w32 a.challenge ++ a.digest) _ _ _ (omega arith) c.put_letter-letter.ensures
    (both _ _ _ (to_be_bytes w32 a.challenge) a.digest _ _ _ number c.put_bytes.ensures)
