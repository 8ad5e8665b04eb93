use Rattle.std.proofs.Common.{arith}
use Rattle.item_decoder.proofs.Flags.{both_put, flag_words_step}
use Rattle.item_decoder.proofs.words.+put_flags.Goals as goal

pub returns : goal.returns
returns t c =
    rw (flag_words_step c.args.left c.args.bits (omega (arith, c.if-left-eq0.false)))
    (both_put _ _ _ _ _ _ c.in_ok-put_lowest_flag.ensures c.put_flags.ensures)
