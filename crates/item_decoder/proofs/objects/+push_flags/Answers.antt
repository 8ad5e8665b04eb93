use Rattle.std.proofs.Common.{arith}
use Rattle.item_decoder.proofs.Plain.{both_pushed, flag_names_step}
use Rattle.item_decoder.proofs.objects.+push_flags.Goals as goal

pub returns : goal.returns
returns t c =
    rw (flag_names_step c.args.left c.args.bits (omega (arith, c.if-left-eq0.false)))
    (both_pushed _ _ _ _ _ _ c.in_ok-push_lowest_flag.ensures c.push_flags.ensures)
