use Rattle.std.proofs.Common.{◌≡◌, ◌∙◌, sym, refl}
use Rattle.std.specs.Prelude.{pos}
use Rattle.control_beginnings.proofs.rows.behind_tag.Goals as goal

pub returns-in_err-number : goal.returns-in_err-number
returns-in_err-number c = rw c.from_residual.ensures (λ text rest s p. c.in_err-number.ensures.again (pos c.args.tag) text rest s p)

pub returns-then-number-from : goal.returns-then-number-from
returns-then-number-from c = λ text rest s p.
    let k = c.in_ok-number.ensures.again (pos c.args.tag) text rest s p in
    let same : c.in_ok-number.number ≡ c.from.result = k.0 ∙ sym c.from.ensures in
    c.if-number-from.true (rw same refl)
