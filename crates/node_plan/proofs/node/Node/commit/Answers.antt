use Rattle.std.proofs.Common.{◌≡◌, sym, ap, subst, ◌∙◌}
use Rattle.dist_model.specs.Keeping.{CountsOwn, Steady}
use Rattle.node_plan.specs.Plans.{committed}
use Rattle.node_plan.specs.Changed.{drawn_by, spawned_by}
use Rattle.node_plan.specs.Seen.{seen}
use Rattle.node_plan.specs.OwnList.{own_item}
use Rattle.node_plan.specs.SeenOf.{seen_of}
use Rattle.erl_names.specs.Minted.{Minted}
use Rattle.monitor_core.specs.Monitors.{WatchMap}
use Rattle.node_plan.specs.Keeps.{AreDrawn}
use Rattle.node_plan.proofs.KeptAfter.{drawn_after, fresh_next, map_popped, named_after, sendable_after}
use Rattle.node_plan.proofs.node.Node.commit.Goals as goal

pub invariant_of-self : goal.invariant_of-self
invariant_of-self c =
    let old = c.args.self.now in
    let plan = c.args.plan in
    let mint = c.draw.ensures.mint ∙ ap (drawn_by plan.draws) c.change_processes-answer.ensures.mint in
    let up = c.draw.ensures.up ∙ c.change_processes-answer.ensures.up in
    let lives = c.draw.ensures.lives ∙ c.change_processes-answer.ensures.lives in
    let ends = c.draw.ensures.ends ∙ c.change_processes-answer.ensures.ends in
    let local =
    ap (λ xs. Rattle.std.proofs.Common.map own_item xs) c.keep.ensures
    ∙ map_popped own_item plan.pops old.local.items plan.local.items in
    let is : seen_of c.draw.new.incarnation c.change_processes-answer.new.names old.own c.dialed_after-self.result c.change_watches.new.watches
    c.change_watchers.new.watchers c.change_sides.new.sides c.keep.new.list.items ≡ committed plan
    (seen old) = (λ i. record {
      mint = mint i;
      cookie = old.own.cookie;
      flags = old.own.flags;
      up = up i;
      dialed = c.dialed_after-self.ensures i;
      lives = lives i;
      names = c.change_processes-answer.ensures.names i;
      ends = ends i;
      watches = c.change_watches.ensures i;
      registered = c.change_watchers.ensures i;
      sides = c.change_sides.ensures i;
      local = local i;
    }) in
    record {
      introduces = record {
        name = old.introduces.name ∙ sym ((named_after plan.change plan.draws old.incarnation.mint).0)
            ∙ sym (ap (λ (m : Minted). m.name) mint);
        creation = old.introduces.creation ∙ sym ((named_after plan.change plan.draws old.incarnation.mint).1)
            ∙ sym (ap (λ (m : Minted). m.creation) mint);
      };
      drawn = let P : Minted → Type 0 = AreDrawn c.change_watches.new.watches.monitors in subst P (sym mint)
          (let Q : WatchMap
          → Type 0 = (λ watches. AreDrawn watches (drawn_by plan.draws (spawned_by plan.change old.incarnation.mint))) in
          subst Q (sym c.change_watches.ensures)
          (drawn_after plan.watches plan.draws plan.change old.incarnation.mint old.watches.monitors c.requires.sound.next old.drawn));
      sendable = ap Rattle.node_frames.specs.Sendable.are_sendable c.keep.ensures
          ∙ sendable_after plan.pops old.local.items plan.local.items old.sendable c.requires.sound.sendable;
      steady = subst Steady (sym is) c.requires.steady;
      counted = subst CountsOwn (sym is) c.requires.counted;
    }

pub change_watches-requires-clause-fresh : goal.change_watches-requires-clause-fresh
change_watches-requires-clause-fresh c =
    let old = c.args.self.now in
    fresh_next c.args.plan.watches c.args.plan.draws old.incarnation.mint old.watches.monitors c.requires.sound.next old.drawn
