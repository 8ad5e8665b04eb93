use Rattle.std.proofs.Common.{◌≡◌, map, sym, ap, subst, ◌∙◌, rules}
use Rattle.std.specs.FinMap as fm
use Rattle.dist_model.proofs.KeepCounted.{counted_new}
use Rattle.dist_model.proofs.KeepSteady.{steady_new}
use Rattle.dist_model.specs.Keeping.{CountsOwn, Steady}
use Rattle.dist_model.specs.Runs.{new_node}
use Rattle.erl_handshake.specs.declared.identity.Identity.{Identity}
use Rattle.erl_names.specs.Ids.{reference_of}
use Rattle.erl_names.specs.Minted.{Minted, nothing_drawn}
use Rattle.monitor_core.specs.Monitors.{WatchMap}
use Rattle.erl_term.specs.Order.{reference_cmp}
use Rattle.node_frames.specs.Sendable.{are_sendable}
use Rattle.node_plan.specs.OwnList.{own_item}
use Rattle.node_plan.specs.SeenOf.{seen_of}
use Rattle.node_plan.proofs.node.Node.new.Goals as goal

pub invariant_of-result : goal.invariant_of-result
invariant_of-result c =
    let name = c.args.name in
    let setup = c.args.setup in
    let own : Identity = record { name = c.in_ok-clone.field-0; creation = c.first.result; flags = c.flags.result; cookie = setup.cookie } in
    let mint = c.new.ensures.mint ∙ ap (nothing_drawn name) c.first-2.ensures in
    let local = ap (map own_item) c.new-6.ensures.items in
    let is : seen_of c.new.result c.new-2.result own 0 c.new-3.result c.new-4.result c.new-5.result c.new-6.result.items ≡ new_node name setup =
    (λ i. record {
      mint = mint i;
      cookie = setup.cookie;
      flags = c.flags.ensures i;
      up = c.new.ensures.up i;
      dialed = 0;
      lives = c.new.ensures.lives i;
      names = c.new-2.ensures i;
      ends = c.new.ensures.ends i;
      watches = c.new-3.ensures i;
      registered = c.new-4.ensures i;
      sides = c.new-5.ensures i;
      local = local i;
    }) in
    let same : c.in_ok-clone.field-0 ≡ name = search rules in
    record {
      introduces = record {
        name = same ∙ sym (ap (λ (m : Minted). m.name) mint);
        creation = c.first.ensures ∙ sym (ap (λ (m : Minted). m.creation) mint);
      };
      drawn = λ count l. ap (λ (watches : WatchMap). fm.get watches (reference_of c.new.result.mint count)) c.new-3.ensures
          ∙ fm.get-empty reference_cmp (reference_of c.new.result.mint count);
      sendable = ap are_sendable c.new-6.ensures.items;
      steady = subst Steady (sym is) (steady_new name setup);
      counted = subst CountsOwn (sym is) (counted_new name setup);
    }
