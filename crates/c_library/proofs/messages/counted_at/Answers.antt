use Rattle.std.proofs.Common.{◌∙◌, ap, arith}
use Rattle.std.specs.Int.{from_be_bytes, w16}
use Rattle.erl_handshake.proofs.Bytes.{whole_or_begun}
use Rattle.c_library.proofs.messages.counted_at.Goals as goal

pub returns : goal.returns
returns c =
    let p = c.in_ok-field.ensures.cases in
    whole_or_begun c.args.bytes.now c.in_ok-field.rest.now c.from.result c.get.result
    (λ i. omega (arith, c.type_inv.bytes i)) (let l = p.2 in omega arith) p.1
    (c.from.ensures ∙ c.from_be_bytes.ensures ∙ ap (from_be_bytes w16) p.0)
    (let e = c.from.ensures in let l = c.from_be_bytes.type_inv in omega arith)
    c.get.ensures.lookup.0
