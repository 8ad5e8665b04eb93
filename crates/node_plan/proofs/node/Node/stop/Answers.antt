use Rattle.std.proofs.Common.{◌≡◌, sym, ap, subst, ◌∙◌, map}
use Rattle.std.specs.FinMap as fm
use Rattle.dist_model.specs.Incarnations.{stopped}
use Rattle.dist_model.specs.Keeping.{CountsOwn, Steady}
use Rattle.erl_names.specs.Ids.{reference_of}
use Rattle.erl_names.specs.Minted.{Minted}
use Rattle.monitor_core.specs.Monitors.{WatchMap}
use Rattle.erl_term.specs.Order.{reference_cmp}
use Rattle.node_plan.specs.Seen.{seen}
use Rattle.node_plan.specs.OwnList.{own_item}
use Rattle.node_plan.specs.SeenOf.{seen_of}
use Rattle.node_plan.proofs.Restarted.{counted_stopped, steady_stopped}
use Rattle.node_plan.proofs.node.Node.stop.Goals as goal

pub invariant_of-self : goal.invariant_of-self
invariant_of-self c =
    let old = c.args.self.now in
    let m = seen old in
    let mint = c.stop.ensures.mint in
    let is : seen_of c.stop.new.self c.new.result old.own old.dialed c.new-2.result c.new-3.result c.all_gone.new.self old.local.items ≡ stopped m =
    (λ i. record {
      mint = mint i;
      cookie = old.own.cookie;
      flags = old.own.flags;
      up = c.stop.ensures.up i;
      dialed = old.dialed;
      lives = c.stop.ensures.lives i;
      names = c.new.ensures i;
      ends = c.stop.ensures.ends i;
      watches = c.new-2.ensures i;
      registered = c.new-3.ensures i;
      sides = c.all_gone.ensures.sides i;
      local = map own_item old.local.items;
    }) in
    record {
      introduces = record {
        name = old.introduces.name ∙ sym (ap (λ (m : Minted). m.name) mint);
        creation = old.introduces.creation ∙ sym (ap (λ (m : Minted). m.creation) mint);
      };
      drawn = λ count l. ap (λ (watches : WatchMap). fm.get watches (reference_of c.stop.new.self.mint count)) c.new-2.ensures
          ∙ fm.get-empty reference_cmp (reference_of c.stop.new.self.mint count);
      sendable = old.sendable;
      steady = subst Steady (sym is) (steady_stopped m old.steady);
      counted = subst CountsOwn (sym is) (counted_stopped m old.counted);
    }
