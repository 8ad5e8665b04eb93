use Rattle.std.proofs.Common.{rules, ◌≡◌, sym, ap, subst, ◌∙◌}
use Rattle.dist_model.specs.Keeping.{CountsOwn, Steady}
use Rattle.erl_handshake.specs.declared.identity.Identity.{Identity}
use Rattle.erl_names.specs.Minted.{Minted}
use Rattle.monitor_core.specs.Monitors.{WatchMap}
use Rattle.node_frames.specs.Sendable.{are_sendable}
use Rattle.node_plan.specs.Keeps.{AreDrawn, Introduces}
use Rattle.node_plan.proofs.CopiedNode.{same_seen}
use Rattle.node_plan.proofs.node.Node.copy.Goals as goal

pub invariant_of-result : goal.invariant_of-result
invariant_of-result c =
    let old = c.args.self.now in
    let it = c.in_ok-incarnation in
    let own : c.in_ok-own.own ≡ old.own = search rules in
    let is =
    same_seen old.incarnation it.incarnation old.names c.in_ok-names.names old.own c.in_ok-own.own old.dialed old.watches
    c.in_ok-watches.watches old.watchers c.in_ok-watchers.watchers old.sides c.in_ok-sides.sides old.local.items c.in_ok-local.local.items
    it.ensures.mint it.ensures.up it.ensures.lives it.ensures.ends c.in_ok-names.ensures own c.in_ok-watches.ensures
    c.in_ok-watchers.ensures c.in_ok-sides.ensures c.in_ok-local.ensures in
    record {
      introduces = subst (λ (m : Minted). Introduces c.in_ok-own.own m) (sym it.ensures.mint)
          (subst (λ (x : Identity). Introduces x old.incarnation.mint) (sym own) old.introduces);
      drawn = subst (λ (m : Minted). AreDrawn c.in_ok-watches.watches.monitors m) (sym it.ensures.mint)
          (subst (λ (watches : WatchMap). AreDrawn watches old.incarnation.mint) (sym c.in_ok-watches.ensures) old.drawn);
      sendable = ap are_sendable c.in_ok-local.ensures ∙ old.sendable;
      steady = subst Steady (sym is) old.steady;
      counted = subst CountsOwn (sym is) old.counted;
    }

pub returns : goal.returns
returns c =
    let old = c.args.self.now in
    let it = c.in_ok-incarnation in
    let own : c.in_ok-own.own ≡ old.own = search rules in
    same_seen old.incarnation it.incarnation old.names c.in_ok-names.names old.own c.in_ok-own.own old.dialed old.watches
    c.in_ok-watches.watches old.watchers c.in_ok-watchers.watchers old.sides c.in_ok-sides.sides old.local.items c.in_ok-local.local.items
    it.ensures.mint it.ensures.up it.ensures.lives it.ensures.ends c.in_ok-names.ensures own c.in_ok-watches.ensures
    c.in_ok-watchers.ensures c.in_ok-sides.ensures c.in_ok-local.ensures
