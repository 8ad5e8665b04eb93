use Rattle.std.proofs.Common.{◌≡◌, ◌^◌, ◌≤◌, ◌*◌, arith}
use Rattle.std.specs.Str.Parse.{digits_value}
use Rattle.script_terms.proofs.DigitLemmas.{value_over, not_less}
use Rattle.script_terms.proofs.integers.value_of.Goals as goal

pub returns-in_default : goal.returns-in_default
returns-in_default c =
    let ds = c.args.digits.now in
    let over : 2 ^ 128 ≤ c.loop-c.value * c.args.radix = not_less _ _ (rw c.from.ensures at c.in_default.ensures) in
    value_over (2 ^ 128) c.args.radix c.loop-c.value c.loop-c.c-index ds (digits_value c.args.radix ds) c.requires
    (omega arith) c.loop-c.invariant (omega arith)

pub returns-in_default-checked_add : goal.returns-in_default-checked_add
returns-in_default-checked_add c =
    let ds = c.args.digits.now in
    let over = not_less _ _ c.in_default-checked_add.ensures in
    let times : c.in-Some.times ≡ c.loop-c.value * c.args.radix = rw c.from.ensures at c.in-Some.ensures.1 in
    value_over (2 ^ 128) c.args.radix c.loop-c.value c.loop-c.c-index ds (digits_value c.args.radix ds) c.requires
    (omega arith) c.loop-c.invariant (omega arith)
