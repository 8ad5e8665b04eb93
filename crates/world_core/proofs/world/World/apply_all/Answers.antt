use Rattle.std.proofs.Common.{◌≡◌, ◌∷◌, List, arith, rules, subst, sym}
use Rattle.world_core.specs.declared.event.Event.{Event}
use Rattle.node_core.specs.Told.{Answered}
use Rattle.world_core.proofs.Happened.{Going, none_yet, one_more}
use Rattle.world_core.proofs.world.World.apply_all.Goals as goal

pub loop-event-init : goal.loop-event-init
loop-event-init c =
    record {
      room = search (arith, rules);
      going = λ m h.
          let P : List Event → Type 0 = (λ es. Going c.args.self.now m c.args.events.items es c.args.answers.now.items) in
          let Q : List Answered → Type 0 = (λ xs. Going c.args.self.now m c.args.events.items c.args.events.items xs) in
          subst P (sym c.into_iter-event-iterator.ensures.into_iter_gives.0)
          (subst Q (sym c.requires.empty) (none_yet c.args.self.now m c.args.events.items h));
    }

pub loop-event-preserved : goal.loop-event-preserved
loop-event-preserved c =
    let e = c.in-Some.event in
    let rest = c.next.new.self.rest.items in
    let first : c.loop-event.event-iterator.rest.items ≡ e ∷ rest = search rules in
    record {
      room = search (arith, rules, first);
      going = λ m h.
          let P : List Event → Type 0 = (λ es. Going c.loop-event.self m c.args.events.items es c.loop-event.answers.items) in
          one_more c.loop-event.self c.apply.new.self m c.args.events.items rest e c.loop-event.answers.items
          c.push_reserved.new.self.items c.apply.result
          (subst P first (c.loop-event.invariant.going m h)) c.apply.ensures c.push_reserved.ensures.items;
    }
