use Rattle.std.proofs.Common.{◌≡◌, get_or, rules, refl}
use Rattle.erl_control.proofs.Sequence.{front_is}
use Rattle.control_beginnings.proofs.Wrapping.{nil_of}
use Rattle.control_beginnings.proofs.IdRows.{id_none, byte_tells, word_tells, big_tells}
use Rattle.control_beginnings.proofs.numbers.id_text_begins.Goals as goal

pub returns-in-empty : goal.returns-in-empty
returns-in-empty c = (λ t. id_none c.args.bytes.now (nil_of c.args.bytes.now c.in-empty.len_below), λ s. refl)

pub returns-in-97 : goal.returns-in-97
returns-in-97 c =
    let first : get_or c.args.bytes.now 0 0 ≡ 97 = search rules in
    byte_tells c.args.bytes.now _ c.byte_id_begins.result (front_is c.args.bytes.now 97 c.in-97.len_at_least first) c.byte_id_begins.ensures

pub returns-in-98 : goal.returns-in-98
returns-in-98 c =
    let first : get_or c.args.bytes.now 0 0 ≡ 98 = search rules in
    word_tells c.args.bytes.now _ c.word_id_begins.result (front_is c.args.bytes.now 98 c.in-98.len_at_least first) c.word_id_begins.ensures

pub returns-in-110 : goal.returns-in-110
returns-in-110 c =
    let first : get_or c.args.bytes.now 0 0 ≡ 110 = search rules in
    big_tells c.args.bytes.now _ c.big_id_begins.result (front_is c.args.bytes.now 110 c.in-110.len_at_least first) c.big_id_begins.ensures
