use Rattle.std.proofs.Common.{◌≤◌, arith, leb-true, le-leb}
use Rattle.fault_places.proofs.Beginnings.{length_goes, length_low}
use Rattle.fault_places.proofs.places.length_begins.Goals as goal

pub returns-then-field-le4 : goal.returns-then-field-le4
returns-then-field-le4 c =
    let field = c.args.field.now in (
      λ t.
          let low : c.number_of.result ≤ 1048576 = leb-true _ _ t in
          length_goes field (λ i. omega (arith, c.type_inv.field i)) c.if-field-le4.true (omega (arith, low, c.number_of.ensures)),
      λ b. le-leb _ _ (omega (arith, length_low field b, c.number_of.ensures)),
    )
