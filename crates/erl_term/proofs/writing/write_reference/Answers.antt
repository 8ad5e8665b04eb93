use Rattle.std.proofs.Common.{length, ap, arith}
use Rattle.std.proofs.lemmas.Grind.{common_steps}
use Rattle.erl_term.proofs.Lengths.{length-reference}
use Rattle.erl_term.proofs.writing.write_reference.Goals as goal

pub write_words-requires : goal.write_words-requires
write_words-requires c =
    let k = length-reference c.args.reference.now in
    let n = ap length c.as_slice-words.ensures.words in
    grind (arith, common_steps)
