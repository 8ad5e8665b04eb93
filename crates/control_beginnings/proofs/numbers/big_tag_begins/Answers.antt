use Rattle.std.proofs.Common.{◌<◌, arith, length}
use Rattle.control_beginnings.proofs.Tagged.{front_two, big_by_second, big_by_shortest, big_back}
use Rattle.control_beginnings.proofs.numbers.big_tag_begins.Goals as goal

pub returns-in-len2-up : goal.returns-in-len2-up
returns-in-len2-up c =
    let lt : c.args.tag < 256 = omega arith in
    let front = front_two c.args.bytes.now c.in-len2-up.len_at_least in (
      λ y. big_back c.args.tag _ c.args.bytes.now lt (c.big_word_begins-in-len2-up.ensures.0 y),
      λ s. c.big_word_begins-in-len2-up.ensures.1 (big_by_second c.args.tag _ c.args.bytes.now front.0 _ front.1 c.requires lt s),
    )

pub returns-in_default : goal.returns-in_default
returns-in_default c =
    let lt : c.args.tag < 256 = omega arith in
    let short : length c.args.bytes.now < 2 = omega arith in (
      λ y. big_back c.args.tag 1 c.args.bytes.now lt (c.big_word_begins.ensures.0 y),
      λ s. c.big_word_begins.ensures.1 (omega arith, omega arith, big_by_shortest c.args.tag c.args.bytes.now short c.requires lt s),
    )
