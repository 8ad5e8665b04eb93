use Rattle.std.proofs.Common.{arith}
use Rattle.fault_places.proofs.Asked.{due_cut, only_cut}
use Rattle.fault_places.proofs.places.term_goes.Goals as goal

pub returns : goal.returns
returns c =
    let bytes = c.args.bytes.now in
    let len = c.term_len.ensures in (
      λ t. due_cut bytes _ (c.is_cut.ensures.0 t) len.err,
      λ cut. c.is_cut.ensures.1 (only_cut bytes _ (c.one_answer.ensures bytes (λ i. omega (arith, c.type_inv.bytes i))) len.ok len.err cut),
    )
