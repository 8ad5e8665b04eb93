use Rattle.std.proofs.Common.{◌∷◌, [], refl, ◌∙◌, ap}
use Rattle.run_diagrams.specs.Recording.{queues_of}
use Rattle.run_diagrams.proofs.MarksAdded.{queues_behind}
use Rattle.run_diagrams.proofs.events.put_item.Goals as goal

pub returns-clause-adds : goal.returns-clause-adds
returns-clause-adds c = record {
  numbers = c.in_ok-queue.queue ∷ [];
  are = (c.in_ok-queue.ensures.number, tt);
  queues = ap queues_of c.in_ok-push.ensures.items ∙ queues_behind c.args.row.now.marks.items _;
  took = refl;
}
