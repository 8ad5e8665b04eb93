use Rattle.std.proofs.Common.{subst, sym, take}
use Rattle.run_diagrams.specs.Recording.{way_in, ways_of}
use Rattle.run_diagrams.proofs.MarksAdded.{Recorded, more_recorded, ways_next}
use Rattle.run_diagrams.proofs.events.put_effects.Goals as goal

pub loop-effect-preserved : goal.loop-effect-preserved
loop-effect-preserved c =
    let effects = c.args.effects.now in
    let i = c.loop-effect.effect-index in
    let effect = c.effect-item.result in
    let first = c.args.ways.now.ways.items in
    let after = c.put_effect.new.ways.ways.items in
    subst (λ ways. Recorded first after ways c.args.row.now c.put_effect.new.row)
    (sym (ways_next effects i effect c.loop-effect-test.true c.effect-item.is))
    (more_recorded first c.loop-effect.ways.ways.items after (ways_of (take i effects))
    (way_in effect) c.args.row.now c.loop-effect.row c.put_effect.new.row
    c.loop-effect.invariant c.in_ok-put_effect.ensures.adds c.put_effect.ensures.kept c.put_effect.ensures.apart)
