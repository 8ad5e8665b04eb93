-- What stands first in a list is due: every event keeps it.
use Rattle.std.proofs.Common.{◌≡◌, ℕ, Bool, true, false, cond, List, [], ◌∷◌, refl, sym, ap, ◌∙◌, subst, Option, Some, None, ◌⊎◌, inl, inr}
use Rattle.std.specs.FinMap as fm
use Rattle.std.specs.FinMap.{FinMap}
use Rattle.conn_core.specs.declared.arrival.Fault.{Fault}
use Rattle.erl_handshake.specs.declared.fault.ShakeFault.{ShakeFault}
use Rattle.dist_model.proofs.Calls.{IfGoes, by_name}
use Rattle.dist_model.proofs.Due.{dials, row_with, state_in, taken_by_acceptor, taken_by_dialer}
use Rattle.dist_model.proofs.DueArrivals.{bad, on_ack, on_challenge, on_reply, on_status}
use Rattle.dist_model.proofs.DueMoves.{Sent, due_moved}
use Rattle.dist_model.proofs.DueParts.{sent_call, sent_item, sent_start, sent_sweep}
use Rattle.dist_model.proofs.DueSteps.{asked, bad_name, loses_at, named, sweeps}
use Rattle.dist_model.proofs.DueWork.{Going, put_away, put_other, put_same}
use Rattle.dist_model.proofs.DueWorld.{Due, due_acceptor, due_dialer, Whose}
use Rattle.dist_model.proofs.FreshSide.{set_self}
use Rattle.dist_model.proofs.Keys.{same_name_is}
use Rattle.dist_model.proofs.Pairs.{Met}
use Rattle.dist_model.proofs.Routes.{node_of_name}
use Rattle.dist_model.proofs.Rules.{awaits_true, handshake_as, handshake_by, name_as}
use Rattle.dist_model.proofs.Sides.{side_at}
use Rattle.dist_model.proofs.Trunks.{Good, Posted, role_state}
use Rattle.dist_model.specs.Arrivals.{arrive_at, arrive_fresh, handshake_in, is_good, on_up, signal_at, take_local}
use Rattle.dist_model.specs.Calls.{call}
use Rattle.dist_model.specs.Commands.{Accepts, Outcome, Refuses}
use Rattle.dist_model.specs.declared.command.Command.{Command}
use Rattle.dist_model.specs.declared.report.Answer.{Answer}
use Rattle.dist_model.specs.Handshake.{fault}
use Rattle.dist_model.specs.Items.{Handshake, Item, kind_of}
use Rattle.dist_model.specs.Names.{Name, place_cmp, same_name}
use Rattle.dist_model.specs.Node.{Node, side_where}
use Rattle.dist_model.specs.Sides.{Accepting, Asked, AwaitsAck, AwaitsChallenge, AwaitsStatus}
use Rattle.dist_model.specs.Sides.{State, TrunkSide, Up, is_losing, is_up, unheard}
use Rattle.dist_model.specs.Taking.{take_item}
use Rattle.dist_model.specs.Work.{at_work}
use Rattle.dist_model.specs.World.{Arrive, Stepped, World, came_of, carried, list_to, node_of, set_node, step_at}
use Rattle.dist_model.proofs.Records.{least_as, sweep_link}
use Rattle.dist_model.proofs.OneStep.{arrives}
use Rattle.dist_model.specs.Losses.{any_side, link_to, lose, lose_at, sweep, sweep_by, close_if_swept}
use Rattle.dist_model.proofs.ClosedSides.{any_found}
use Rattle.erl_handshake.specs.declared.message.ShakeMsg.{ShakeMsg}
use Rattle.erl_handshake.specs.declared.status.Status.{Status}
use Rattle.erl_names.specs.declared.trunk.TrunkId.{TrunkId}
use Rattle.dist_model.proofs.Run.{handshake_is, not_own}
use Rattle.dist_model.proofs.Primitives.{some_listed}

module _ (w : World) (x : Name) (n : Node) (hx : node_of w.nodes x ≡ Some n) (g : Good w) where
  nx : n.mint.name ≡ x
  nx = node_of_name w.nodes x n hx

  whose : (t : TrunkId) (s : TrunkSide) → side_at n t ≡ Some s → Whose w.nodes x t s
  whose t s h = by_name _ t.dialer x (λ e. inl e)
      (λ d. inr (d, peer d ((g.core.sides x n hx).mine t s h), g.core.met x n t s hx h d))
    where
      peer : (t.dialer ≡ x → ⊥) → (t.dialer ≡ n.mint.name) ⊎ (t.dialer ≡ s.peer) → t.dialer ≡ s.peer
      peer d (inl e) = absurd (d (e ∙ nx))
      peer d (inr e) = e

  pub stranger : (t : TrunkId) (s : TrunkSide) → side_at n t ≡ Some s → s.peer ≡ x → ⊥
  stranger t s h e = (g.core.sides x n hx).other t s h (e ∙ sym nx)

  role : (t : TrunkId) (s : TrunkSide) → side_at n t ≡ Some s → role_state (same_name t.dialer x) s.state ≡ true
  role t s h = ap (λ y. role_state (same_name t.dialer y) s.state) (sym nx) ∙ (g.home x n hx).roles t s h

  going : (m : FinMap place_cmp (List Item)) → Due w.nodes m → Going w.nodes m x n hx (at_work n)
  going m u = record {
    name = nx;
    told = λ t s h. record { stranger = stranger t s h; whose = whose t s h; role = role t s h };
    due = subst (λ l. Due l m) (sym (set_self w.nodes x n hx)) u;
  }

  -- what x sends but for the handshake
  moved : (m : FinMap place_cmp (List Item)) (o : Outcome) → IfGoes o (Sent n) → Due w.nodes m
      → IfGoes o (λ p. Due (set_node w.nodes x p.node) (carried m p.effects))
  moved m (Refuses k) h u = tt
  moved m (Accepts a o) h u = due_moved w.nodes m x n o hx nx (g.core.sides x n hx) whose h u

  module _ (t : TrunkId) (i : Item) (rest : List Item) (first : list_to w.lists t x ≡ i ∷ rest) (u : Due w.nodes w.lists) where
    abbrev popped : FinMap place_cmp (List Item)
    popped = fm.insert w.lists (t, x) rest

    abbrev Fin : Outcome → Type 0
    Fin o = IfGoes o (λ p. Due (set_node w.nodes x p.node) (carried popped p.effects))

    -- an item to the acceptor is taken off
    acceptor_pops : (t.dialer ≡ x → ⊥) → Met w.nodes t x → Due w.nodes popped
    acceptor_pops d k = subst (λ l. Due l popped) (set_self w.nodes x n hx)
        (due_acceptor w.nodes w.lists x n n hx nx t popped (λ v e. refl) (λ v z e. put_away w.lists t x rest v z e) d k
        (λ y row. row_with y _ _ _ _ _ _ refl (sym (put_other w.lists t x rest t.dialer d)) (sym (put_same w.lists t x rest))
        (taken_by_acceptor y (state_in (side_at n t)) i _ rest (row_with y _ _ _ _ _ _ refl refl first row))) u)

    module _ (v : TrunkSide) (h : side_at n t ≡ Some v) where
      dialer_pops : t.dialer ≡ x → v.state ≡ Up → Due w.nodes popped
      dialer_pops d e = subst (λ l. Due l popped) (set_self w.nodes x n hx)
          (due_dialer w.nodes w.lists x n n hx nx t popped (λ z j. refl) (λ z y j. put_away w.lists t x rest z y j) d v v h h refl
          (stranger t v h)
          (λ p row. row_with v.state p p _ _ _ _ refl (sym (put_same w.lists t x rest))
          (sym (put_other w.lists t x rest v.peer (stranger t v h)))
          (taken_by_dialer v.state p i rest _ (λ j. let c : false ≡ true = sym (ap dials e)
          ∙ j in absurd (let b : true ≡ false = sym c in cc)) (row_with v.state p p _ _ _ _ refl first refl row))) u)

      up_pops : v.state ≡ Up → Due w.nodes popped
      up_pops e = go (whose t v h)
        where
          go : Whose w.nodes x t v → Due w.nodes popped
          go (inl d) = dialer_pops d e
          go (inr d) = acceptor_pops d.0 d.2

      broken : (k : Fault) → Fin (fault k t v (at_work n))
      broken k = bad w.nodes w.lists x n t v i rest hx nx h (stranger t v h) (whose t v h) (role t v h) first u k

      goes_up : v.state ≡ Up → Fin (on_up t v i (at_work n))
      goes_up e = go (is_good n v i)
        where
          go : (b : Bool) → Fin (cond b (Accepts (Answer.Took (kind_of i)) (take_item v.peer i (at_work n))) (fault Fault.Forged t v (at_work n)))
          go true = moved popped (Accepts (Answer.Took (kind_of i)) (take_item v.peer i (at_work n)))
              (sent_item n v.peer i (at_work n) (sent_start n)) (up_pops e)
          go false = broken Fault.Forged

      true_comes : (k : ℕ) → v.state ≡ Asked k → (l : ShakeMsg) → Fin (awaits_true t v k l (at_work n))
      true_comes k e (ShakeMsg.Status Status.True) = go (whose t v h)
        where
          go : Whose w.nodes x t v → Fin (awaits_true t v k (ShakeMsg.Status Status.True) (at_work n))
          go (inl d) = let c : false ≡ true = sym (ap (λ b. role_state b v.state) (same_name_is t.dialer x d) ∙ ap (role_state true) e)
              ∙ role t v h in absurd (let b : true ≡ false = sym c in cc)
          go (inr d) = (asked w.nodes popped x n hx t d.0 d.2 v (sym d.1) k (at_work n) (side_where is_up v.peer (fm.entries n.sides)) refl
              h e (going popped (acceptor_pops d.0 d.2))).due
      true_comes k e (ShakeMsg.Status Status.False) = broken (Fault.Shake ShakeFault.Nok)
      true_comes k e _ = broken (Fault.Shake ShakeFault.BadMessage)

      by_rule : (a : State) → v.state ≡ a → (l : ShakeMsg) → i ≡ Handshake l → Fin (handshake_by a t v l (at_work n))
      by_rule (AwaitsStatus k) e l j = on_status w.nodes w.lists x n t v i rest hx nx h (stranger t v h) (whose t v h) (role t v h) first u
          k e l j
      by_rule (AwaitsChallenge k) e l j = on_challenge w.nodes w.lists x n t v i rest hx nx h (stranger t v h) (whose t v h) (role t v h)
          first u k e l j
      by_rule (AwaitsAck k) e l j = on_ack w.nodes w.lists x n t v i rest hx nx h (stranger t v h) (whose t v h) (role t v h) first u k e l
          j
      by_rule (Asked k) e l j = true_comes k e l
      by_rule (Accepting k) e l j = on_reply w.nodes w.lists x n t v i rest hx nx h (stranger t v h) (whose t v h) (role t v h) first u k e
          l j
      by_rule _ e l j = broken (Fault.Shake ShakeFault.BadMessage)

      pub by_signal : (a : State) → v.state ≡ a → Fin (signal_at a t v i (at_work n))
      by_signal Up e = goes_up e
      by_signal _ e = broken (Fault.Shake ShakeFault.BadMessage)

      pub by_kind : (o : Option ShakeMsg) → handshake_in i ≡ o → Fin (arrive_at o t v i (at_work n))
      by_kind None k = by_signal v.state refl
      by_kind (Some l) k = subst Fin (sym (handshake_as v.state t v l (at_work n))) (by_rule v.state refl l (handshake_is i l k))

    -- a new side
    module _ (far : t.dialer ≡ x → ⊥) (k : Met w.nodes t x) (none : side_at n t ≡ None) where
      bad_one : Fin (fault (Fault.Shake ShakeFault.BadMessage) t (unheard t) (at_work n))
      bad_one = (bad_name w.nodes popped x n hx t far k (at_work n) none (going popped (acceptor_pops far k))).due

      due_of : (o : Outcome) → IfGoes o (Going w.nodes popped x n hx) → Fin o
      due_of (Refuses j) h = tt
      due_of (Accepts a o) h = h.due

      pub fresh : (o : Option ShakeMsg) (z : ℕ) → Fin (arrive_fresh o t z (at_work n))
      fresh (Some (ShakeMsg.SendName f c y)) z = subst Fin (sym (name_as t (ShakeMsg.SendName f c y) z (at_work n)))
          (due_of _ (named w.nodes popped x n hx t far k z f c y (at_work n) none (going popped (acceptor_pops far k))))
      fresh _ z = bad_one

  -- ---- events of x

  ends_due : (m : FinMap place_cmp (List Item)) (o : Outcome) → Due w.nodes w.lists
      → IfGoes o (λ p. Due (set_node w.nodes x p.node) (carried m p.effects))
      → Due ((came_of w x m o).world.nodes) ((came_of w x m o).world.lists)
  ends_due m (Refuses j) u h = u
  ends_due m (Accepts a o) u h = h

  abbrev After : Stepped → Type 0
  After s = Due s.world.nodes s.world.lists

  pub calls_due : (c : Command) → Due w.nodes w.lists → After (came_of w x w.lists (call n c))
  calls_due c u = ends_due w.lists (call n c) u (moved w.lists (call n c) (sent_call n c) u)

  pub local_due : (l : List Item) → Due w.nodes w.lists → After (came_of w x w.lists (take_local n l))
  local_due [] u = u
  local_due (i ∷ xs) u = let k = sent_item (record n { local = xs }) n.mint.name i (at_work (record n { local = xs }))
      (sent_start (record n { local = xs })) in
      moved w.lists (Accepts (Answer.Took (kind_of i)) (take_item n.mint.name i (at_work (record n { local = xs }))))
      (record { sides = k.sides; name = k.name; routed = k.routed; words = k.words }) u

  -- what travels to x on a trunk that x didn't dial
  met_of : (t : TrunkId) (i : Item) (rest : List Item) → (t.dialer ≡ x → ⊥) → list_to w.lists t x ≡ i ∷ rest → Met w.nodes t x
  met_of t i rest d h = go (g.posted t x (some_listed (fm.get w.lists (t, x)) i rest h))
    where
      go : Posted w.nodes t x → Met w.nodes t x
      go p = pick p.4
        where
          pick : (t.dialer ≡ x) ⊎ (p.0.peer ≡ x) → Met w.nodes t x
          pick (inl e) = absurd (d e)
          pick (inr e) = record { dialer = p.1; at = p.2; side = p.0; there = p.3; peer = e }

  pub comes_due : (t : TrunkId) (z : ℕ) → Due w.nodes w.lists → After (step_at w (Some n) (Arrive t x z))
  comes_due t z u = arrives w x n After (λ r. u) t z
      (λ i rest e h.
      let d : t.dialer ≡ x → ⊥ = λ j. let c : true ≡ false = sym (same_name_is t.dialer x j) ∙ not_own w x n t i rest hx h g e in cc in
      ends_due (fm.insert w.lists (t, x) rest) (arrive_fresh (handshake_in i) t z (at_work n)) u
      (fresh t i rest e u d (met_of t i rest d e) h (handshake_in i) z))
      (λ i rest v e h o. ends_due (fm.insert w.lists (t, x) rest) (arrive_at (handshake_in i) t v i (at_work n)) u
      (by_kind t i rest e u v h (handshake_in i) refl))

  due_in_work : (o : Outcome) → IfGoes o (Going w.nodes w.lists x n hx)
      → IfGoes o (λ p. Due (set_node w.nodes x p.node) (carried w.lists p.effects))
  due_in_work (Refuses j) h = tt
  due_in_work (Accepts a o) h = h.due

  pub lose_due : (t : TrunkId) (o : Option TrunkSide) → side_at n t ≡ o → Due w.nodes w.lists → After (came_of w x w.lists (lose n t o))
  lose_due t None h u = u
  lose_due t (Some v) h u = ends_due w.lists (lose_at v.state t v (at_work n)) u
      (due_in_work (lose_at v.state t v (at_work n)) (loses_at w.nodes w.lists x n hx (at_work n) t v h (going w.lists u) v.state refl))

  pub sweep_due : Due w.nodes w.lists → After (came_of w x w.lists (sweep n))
  sweep_due u = go (any_side is_losing (fm.entries n.sides)) refl
    where
      go : (d : Option (TrunkId × TrunkSide)) → any_side is_losing (fm.entries n.sides) ≡ d
          → After (came_of w x w.lists (sweep_by d (at_work n)))
      go None j = u
      go (Some d) j =
          let r = any_found is_losing (fm.entries n.sides) d (fm.entries_sorted n.sides) j in
          let h : side_at n d.0 ≡ Some d.1 = fm.get-entries n.sides d.0 ∙ r.0 in
          let k = sent_sweep n d.1.peer in
          let s = going w.lists u in
          subst (λ z. Due (set_node w.nodes x ((close_if_swept d.0 d.1 z).node)) (carried w.lists ((close_if_swept d.0 d.1 z).effects)))
          (sym (least_as d.1.peer (at_work n)))
          (sweeps w.nodes w.lists x n hx (sweep_link (link_to d.1.peer (fm.entries n.ends)) d.1.peer (at_work n)) d.0 d.1
          (ap (λ l. fm.get l d.0) k.sides ∙ h)
          (record {
            name = k.name ∙ nx;
            told = λ t v e. s.told t v (ap (λ l. fm.get l t) (sym k.sides) ∙ e);
            due = due_moved w.nodes w.lists
                x n _ hx nx (g.core.sides x n hx) whose k u;
          })).due
