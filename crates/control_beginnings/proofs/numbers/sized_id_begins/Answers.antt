use Rattle.std.proofs.Common.{◌≡◌, ◌≤◌, get_or, arith, rules, refl}
use Rattle.erl_control.proofs.Sequence.{front_is}
use Rattle.control_beginnings.specs.Parts.{IsDigitsId}
use Rattle.control_beginnings.proofs.Splits.{headed_to, headed_from}
use Rattle.control_beginnings.proofs.Wrapping.{nil_of}
use Rattle.control_beginnings.proofs.IdRows.{sized_none}
use Rattle.control_beginnings.proofs.numbers.sized_id_begins.Goals as goal

pub returns-in-empty : goal.returns-in-empty
returns-in-empty c =
    let some : 1 ≤ c.args.len = omega arith in
    (λ t. (some, sized_none c.args.len c.args.bytes.now some (nil_of c.args.bytes.now c.in-empty.len_below)), λ s. refl)

pub returns-in-0 : goal.returns-in-0
returns-in-0 c =
    let some : 1 ≤ c.args.len = omega arith in
    let first : get_or c.args.bytes.now 0 0 ≡ 0 = search rules in
    let front = front_is c.args.bytes.now 0 c.in-0.len_at_least first in (
      λ t. (some, headed_to 0 (IsDigitsId c.args.len) c.args.bytes.now _ front (c.digits_begin.ensures.0 t)),
      λ s. c.digits_begin.ensures.1 (headed_from 0 (IsDigitsId c.args.len) c.args.bytes.now _ front s.1),
    )
