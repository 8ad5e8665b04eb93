use Rattle.std.proofs.Common.{refl, ◌∙◌}
use Rattle.node_tables.proofs.Buried.{came_gone, came_rising}
use Rattle.node_tables.proofs.runs.bury.Goals as goal

pub join-requires : goal.join-requires
join-requires c =
    record {
      rising = came_rising c.args.runs.now.items c.deref.result.now _ c.place_among-at.result _ refl c.deref.ensures.value
          c.place_among-at.ensures.bound c.in-Ok.ensures.items c.requires.none c.place_among-at.ensures.parts c.requires.rising;
    }

pub returns-then-at-gt0-clause-adds : goal.returns-then-at-gt0-clause-adds
returns-then-at-gt0-clause-adds c = λ q.
    c.join-then-at-gt0.ensures.same q ∙ c.join.ensures.same q
    ∙ came_gone c.args.runs.now.items c.deref.result.now _ c.place_among-at.result _ refl c.deref.ensures.value
    c.place_among-at.ensures.bound c.in-Ok.ensures.items c.requires.none q
