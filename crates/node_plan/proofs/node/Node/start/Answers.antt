use Rattle.std.proofs.Common.{◌≡◌, sym, ap, subst, ◌∙◌, map}
use Rattle.std.specs.FinMap as fm
use Rattle.dist_model.specs.Incarnations.{started}
use Rattle.dist_model.specs.Keeping.{CountsOwn, Steady}
use Rattle.erl_handshake.specs.declared.identity.Identity.{Identity}
use Rattle.erl_names.specs.Ids.{reference_of}
use Rattle.erl_names.specs.Minted.{Minted}
use Rattle.monitor_core.specs.Monitors.{WatchMap}
use Rattle.erl_term.specs.Order.{reference_cmp}
use Rattle.node_frames.specs.Sendable.{are_sendable}
use Rattle.node_plan.specs.Seen.{seen}
use Rattle.node_plan.specs.OwnList.{own_item}
use Rattle.node_plan.specs.SeenOf.{seen_of}
use Rattle.node_plan.proofs.Restarted.{counted_started, steady_started}
use Rattle.node_plan.proofs.node.Node.start.Goals as goal

pub invariant_of-self-2 : goal.invariant_of-self-2
invariant_of-self-2 c =
    let old = c.args.self.now in
    let m = seen old in
    let mint = c.in_ok-start.ensures.mint in
    let own : Identity = record {
      name = old.own.name;
      creation = c.creation-self.result;
      flags = old.own.flags;
      cookie = old.own.cookie;
    } in
    let is : seen_of c.start.new.self c.new.result own old.dialed c.new-2.result c.new-3.result c.all_gone.new.self c.clear.new.self.items ≡ started m =
    (λ i. record {
      mint = mint i;
      cookie = old.own.cookie;
      flags = old.own.flags;
      up = c.in_ok-start.ensures.up i;
      dialed = old.dialed;
      lives = c.in_ok-start.ensures.lives i;
      names = c.new.ensures i;
      ends = c.in_ok-start.ensures.ends i;
      watches = c.new-2.ensures i;
      registered = c.new-3.ensures i;
      sides = c.all_gone.ensures.sides i;
      local = ap (map own_item) c.clear.ensures.items i;
    }) in
    record {
      introduces = record {
        name = old.introduces.name ∙ sym (ap (λ (m : Minted). m.name) mint);
        creation = c.creation-self.ensures ∙ ap (λ (m : Minted). m.creation) c.mint.ensures;
      };
      drawn = λ count l. ap (λ (watches : WatchMap). fm.get watches (reference_of c.start.new.self.mint count)) c.new-2.ensures
          ∙ fm.get-empty reference_cmp (reference_of c.start.new.self.mint count);
      sendable = ap are_sendable c.clear.ensures.items;
      steady = subst Steady (sym is) (steady_started m old.steady);
      counted = subst CountsOwn (sym is) (counted_started m old.counted);
    }
