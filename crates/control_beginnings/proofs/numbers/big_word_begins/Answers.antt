use Rattle.std.proofs.Common.{◌∙◌, sym, arith}
use Rattle.control_beginnings.proofs.Tagged.{word_of}
use Rattle.control_beginnings.proofs.numbers.big_word_begins.Goals as goal

pub returns : goal.returns
returns c =
    let e = word_of c.args.tag c.args.len (omega arith) (omega arith) in (
      λ y. let s = c.begins_word.ensures.0 y in (omega arith, omega arith, (s.0, s.1 ∙ e)),
      λ h. c.begins_word.ensures.1 (h.2.0, h.2.1 ∙ sym e),
    )
