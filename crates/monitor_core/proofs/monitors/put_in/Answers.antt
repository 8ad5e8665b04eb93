use Rattle.std.proofs.Common.{Some}
use Rattle.monitor_core.proofs.Among.{alone_with, trees_before}
use Rattle.monitor_core.proofs.monitors.put_in.Goals as goal

pub insert-requires-clause-alone : goal.insert-requires-clause-alone
insert-requires-clause-alone g c =
    alone_with _ _ c.put-slot.result (c.args.reference, c.args.monitor) c.requires.indexed.alone c.requires.fresh c.put-slot.ensures.slots

pub insert-requires-clause-others : goal.insert-requires-clause-others
insert-requires-clause-others g c =
    trees_before _ _ _ _ c.put-slot.result (Some (c.args.reference, c.args.monitor)) _ c.put-slot.ensures.empty c.put-slot.ensures.slots
    c.requires.indexed.ordered

pub returns-clause-indexed : goal.returns-clause-indexed
returns-clause-indexed g c = record {
  alone = alone_with _ _ c.put-slot.result (c.args.reference, c.args.monitor) c.requires.indexed.alone c.requires.fresh c.put-slot.ensures.slots;
  ordered = c.insert.ensures.all;
}
