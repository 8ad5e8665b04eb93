use Rattle.monitor_core.proofs.Among.{still_alone, trees_after}
use Rattle.monitor_core.proofs.monitors.take_out.Goals as goal

pub returns-clause-indexed : goal.returns-clause-indexed
returns-clause-indexed g c = record {
  alone = still_alone _ _ c.args.slot c.requires.indexed.alone c.take.ensures.slots;
  ordered = trees_after _ _ _ _ c.args.slot _ c.take.ensures.slots c.remove.ensures.others;
}
