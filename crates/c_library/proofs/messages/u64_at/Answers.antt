use Rattle.std.proofs.Common.{arith}
use Rattle.erl_handshake.proofs.Bytes.{split_8}
use Rattle.c_library.proofs.messages.u64_at.Goals as goal

pub returns : goal.returns
returns c =
    let p = c.in_ok-field.ensures.cases in
    split_8 c.args.bytes.now c.in_ok-field.field.now c.in_ok-field.rest.now c.from_be_bytes.result
    (λ i. omega (arith, c.type_inv.bytes i)) (let l = p.2 in omega arith) p.0 p.1 c.from_be_bytes.ensures
