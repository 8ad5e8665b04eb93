use Rattle.std.proofs.Common.{◌≡◌, ◌<◌, ◌≤◌, length, arith, rules, sym, subst}
use Rattle.readers.specs.Reading.{AreBytes}
use Rattle.byteorder.specs.Endian.{big_number}
use Rattle.control_beginnings.specs.Parts.{IsWordId}
use Rattle.control_beginnings.proofs.Passing.{tells_true}
use Rattle.control_beginnings.proofs.Identified.{word_starts, word_known, true_lt, some_true, true_some}
use Rattle.control_beginnings.proofs.numbers.word_id_begins.Goals as goal

pub returns-then-is_empty : goal.returns-then-is_empty
returns-then-is_empty c =
    let bytes : AreBytes c.args.field.now = λ i. omega (arith, c.type_inv.field i) in
    let nil : length c.args.field.now ≡ 0 = search rules in
    tells_true IsWordId c.args.field.now
    (word_starts c.args.field.now bytes (omega arith) (λ l. absurd (omega arith)) (λ l. absurd (omega arith)))

pub returns-then-field-lt4 : goal.returns-then-field-lt4
returns-then-field-lt4 c =
    let bytes : AreBytes c.args.field.now = λ i. omega (arith, c.type_inv.field i) in
    let lt : length c.args.field.now < 4 = c.if-field-lt4.true in (
      λ t. word_starts c.args.field.now bytes (omega arith) (λ l. omega arith) (λ l. absurd (omega arith)),
      λ s. true_lt (length c.args.field.now) 4 lt,
    )

pub returns-else-field-lt4 : goal.returns-else-field-lt4
returns-else-field-lt4 c =
    let bytes : AreBytes c.args.field.now = λ i. omega (arith, c.type_inv.field i) in
    let four : length c.args.field.now ≡ 4 = omega arith in
    let is : c.read_u32.result ≡ big_number 4 c.args.field.now = c.read_u32.ensures in (
      λ t. let some = some_true c.read_u32.result t in
          word_starts c.args.field.now bytes (omega arith) (λ l. omega arith) (λ l. subst (λ n. 1 ≤ n) is some),
      λ s. let k = word_known c.args.field.now s in
          true_some c.read_u32.result (subst (λ n. 1 ≤ n) (sym is) (k.some four)),
    )
