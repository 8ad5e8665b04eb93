use Rattle.std.proofs.Common.{List, map, ap, ◌∙◌}
use Rattle.diagram.specs.Arrows.{paired}
use Rattle.diagram.specs.Queues.{Seen, seen_of}
use Rattle.diagram.specs.declared.queues.Traffic.{Traffic}
use Rattle.diagram.proofs.QueueTable.{at_queue}
use Rattle.diagram.proofs.layout.lay_out.Goals as goal

pub returns-clause-arrows : goal.returns-clause-arrows
returns-clause-arrows c queue =
    at_queue c.in_ok-table.table.items c.in_ok-arrows.arrows.items queue
    (c.in_ok-arrows.ensures ∙ ap (λ (table : List Traffic). map (λ traffic. paired (seen_of traffic)) table) c.deref.ensures.value)
    ∙ ap (λ (seen : Seen). paired seen) (c.in_ok-table.ensures queue)
