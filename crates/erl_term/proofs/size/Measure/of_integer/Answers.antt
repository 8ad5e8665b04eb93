use Rattle.std.proofs.Common.{length, ap, sym, ◌∙◌}
use Rattle.std.specs.Prelude.{ℤ}
use Rattle.std.specs.Int.{w128}
use Rattle.std.proofs.lemmas.Int.{to_z-of_z}
use Rattle.erl_term.specs.Data.{int}
use Rattle.erl_term.specs.Canonical.{canonical_int, is_byte}
use Rattle.erl_term.proofs.Sizes.{byte_measure, integer_measure}
use Rattle.erl_term.proofs.size.Measure.of_integer.Goals as goal

pub returns-then-is_byte : goal.returns-then-is_byte
returns-then-is_byte c =
    let same = to_z-of_z w128 c.args.n c.ranges.n in
    byte_measure c.args.n (ap (λ (z : ℤ). is_byte (int z)) (sym same) ∙ sym c.is_byte.ensures ∙ c.if-is_byte.true)

pub returns : goal.returns
returns c =
    let same = to_z-of_z w128 c.args.n c.ranges.n in
    integer_measure c.args.n c.integer_len.result (ap (λ (z : ℤ). is_byte (int z)) (sym same) ∙ sym c.is_byte.ensures ∙ c.if-is_byte.false)
    (c.integer_len.ensures.len ∙ ap (λ (z : ℤ). length (canonical_int z)) same) c.integer_len.ensures.bound
